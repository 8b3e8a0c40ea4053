use Rattle.std.proofs.Common.{◌≡◌, ◌+◌, ap, string_bytes}
use Rattle.std.proofs.lemmas.Map.Text.{btree_map_updates_text}
use Rattle.std.proofs.lemmas.Result.{IfOk-at_ok}
use Rattle.topic_core.proofs.Counted.{name_counted}
use Rattle.topic_core.proofs.name_counts.count_name.Goals as goal

pub returns-clause-ok : goal.returns-clause-ok
returns-clause-ok c =
    let key_is_name = IfOk-at_ok (λ s. string_bytes s ≡ c.args.name.now) c.in_ok-key.was c.from_str.ensures.ok in
    let sets = btree_map_updates_text (string_bytes c.in_ok-key.key) c.args.counts.now c.insert.new.self _ c.in_ok-insert.ensures.updates in
    name_counted c.args.counts.now c.insert.new.self c.args.name.now _ (rw key_is_name at sets) (ap (λ n. n + 1) c.count_of_name-count.ensures)
