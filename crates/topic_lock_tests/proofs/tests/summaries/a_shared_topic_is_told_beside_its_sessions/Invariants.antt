use Rattle.topic_lock_tests.proofs.tests.summaries.a_shared_topic_is_told_beside_its_sessions.Given as goal

abbrev pub ghosts-run : goal.ghosts-run
ghosts-run g a = record {
  accepted = record { one = record { name = a.blanks.accepted_topics.name; parts = a.blanks.accepted_topics.parts }; other = record { name = a.blanks.accepted_ports.name; parts = a.blanks.accepted_ports.parts } };
  handed = record { one = record { name = a.blanks.handed_topics.name; parts = a.blanks.handed_topics.parts }; other = record { name = a.blanks.handed_ports.name; parts = a.blanks.handed_ports.parts } };
  durable = record { one = record { name = a.blanks.durable_stores.name; parts = a.blanks.durable_stores.parts }; other = record { name = a.blanks.durable_topics.name; parts = a.blanks.durable_topics.parts } };
}
