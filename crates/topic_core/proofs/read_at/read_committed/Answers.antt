use Rattle.std.proofs.Common.{◌≡◌, ◌⊎◌, Some, Ok, Err, IfErr, rules, sym, ap, subst, ◌∙◌}
use Rattle.gated_log.specs.declared.read_error.ReadError.TheVariants.{Device, NoMemory}
use Rattle.topic_core.proofs.Reading.{reads_entry, reads_refused}
use Rattle.topic_core.proofs.read_at.read_committed.Goals as goal

pub returns-clause-entry : goal.returns-clause-entry
returns-clause-entry g c = λ phase core h above within.
    let bytes = c.in_ok-bytes.bytes in
    let same : bytes.items ≡ c.in_ok-entry.entry = search rules in
    let read = reads_entry (λ entry. entry.items) g.T.TopicStore.stands core (g.T.TopicStore.view c.args.stores.now) (g.S.Shelf.disk c.args.shelf.now) c.args.position above within phase (Ok bytes) h
    c.in_ok-bytes.ensures.entry (λ failed. (c.in_ok-bytes.ensures.stays_failed failed).0) in
    read ∙ ap (λ entry. Some entry) same

pub returns-in_err-bytes-clause-refused : goal.returns-in_err-bytes-clause-refused
returns-in_err-bytes-clause-refused g c = λ phase core h above within.
    let why = c.in_err-bytes.field-0.0 in
    let is : c.from_residual.result ≡ Err why = search rules in
    subst (λ r. IfErr r (λ e. (e ≡ NoMemory) ⊎ (e ≡ Device))) (sym is)
    (reads_refused (λ entry. entry.items) g.T.TopicStore.stands core (g.T.TopicStore.view c.args.stores.now) (g.S.Shelf.disk c.args.shelf.now) c.args.position above within phase (Err why) h
    c.in_err-bytes.ensures.refused (λ failed. (c.in_err-bytes.ensures.stays_failed failed).0))
