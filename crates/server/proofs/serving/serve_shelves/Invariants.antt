use Rattle.server.proofs.serving.serve_shelves.Given as goal

abbrev pub ghosts-serve_counted : goal.ghosts-serve_counted
ghosts-serve_counted g a = record {
  accepted = record { one = record { name = a.blanks.accepted_topics.name; parts = a.blanks.accepted_topics.parts }; other = record { name = a.blanks.accepted_ports.name; parts = a.blanks.accepted_ports.parts } };
  handed = record { one = record { name = a.blanks.handed_topics.name; parts = a.blanks.handed_topics.parts }; other = record { name = a.blanks.handed_ports.name; parts = a.blanks.handed_ports.parts } };
  durable = record { one = record { name = a.blanks.durable_stores.name; parts = a.blanks.durable_stores.parts }; other = record { name = a.blanks.durable_topics.name; parts = a.blanks.durable_topics.parts } };
}
