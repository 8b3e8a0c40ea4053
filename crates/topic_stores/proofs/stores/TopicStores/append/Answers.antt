use Rattle.std.proofs.Common.{◌≡◌, length, refl, sym, subst, ◌∙◌}
use Rattle.disk.specs.Areas.{FilesOf, Within}
use Rattle.disk.specs.Contents.{Steady}
use Rattle.managed_ledger.specs.Entries.{Ledger, end_of, lengthened}
use Rattle.gated_log.specs.declared.start.Start.{Start}
use Rattle.records.specs.Records.{after_all}
use Rattle.topic_stores.specs.Views.{entry_view, sub_view, stand}
use Rattle.topic_stores.specs.Laws.{entry_laws, sub_laws, still_served}
use Rattle.topic_stores.specs.Writing.{IsLeft, StandsFor}
use Rattle.topic_stores.proofs.Writing.{entries_settled, settled_both, within_entries, within_changes, subs_beside, entries_beside, both_left}
use Rattle.topic_stores.proofs.Sizes.{known_written}
use Rattle.topic_stores.proofs.stores.TopicStores.append.Goals as goal

pub returns-in_err-append_entries-clause-within : goal.returns-in_err-append_entries-clause-within
returns-in_err-append_entries-clause-within g c = λ ledger kept batch records limit for_e for_s formed starts x.
    let laws_e = entry_laws g.E.EntryStore.topic_of g.E.EntryStore.start_of g.E.EntryStore.counts g.E.EntryStore.per_ledger g.E.EntryStore.failed g.E.EntryStore.holds g.E.EntryStore.stands g.E.EntryStore.area g.met.E.EntryStore.holds_works g.met.E.EntryStore.holds_counts g.met.E.EntryStore.holds_stands g.met.E.EntryStore.holds_behind g.met.E.EntryStore.stands_base g.met.E.EntryStore.stands_few g.met.E.EntryStore.area_segments g.met.E.EntryStore.holds_local in
    let laws_s = sub_laws g.C.SubStore.topic_of g.C.SubStore.start_of g.C.SubStore.content g.C.SubStore.failed g.C.SubStore.holds g.C.SubStore.written g.C.SubStore.stands g.C.SubStore.area g.met.C.SubStore.holds_works g.met.C.SubStore.holds_content g.met.C.SubStore.holds_stands g.met.C.SubStore.holds_longer g.met.C.SubStore.stands_longer g.met.C.SubStore.stands_fits g.met.C.SubStore.area_slots g.met.C.SubStore.holds_local g.met.C.SubStore.written_local in
    let e0 = entry_view g.E.EntryStore.topic_of g.E.EntryStore.start_of g.E.EntryStore.counts g.E.EntryStore.per_ledger g.E.EntryStore.failed g.E.EntryStore.holds c.args.self.now.entries in
    let s0 = sub_view g.C.SubStore.topic_of g.C.SubStore.start_of g.C.SubStore.content g.C.SubStore.failed g.C.SubStore.holds g.C.SubStore.written c.args.self.now.subscriptions in
    let el0 = laws_e c.args.self.now.entries in
    let sl0 = laws_s c.args.self.now.subscriptions in
    let d0 = g.S.Shelf.disk c.args.shelf.now in
    let d1 = g.S.Shelf.disk c.append_entries.new.shelf in
    let raw = (c.append_entries.ensures.appends ledger batch for_e (entries_settled e0 s0 d0 ledger kept x)).within in
    within_entries g.E.EntryStore.stands g.C.SubStore.stands g.E.EntryStore.area g.C.SubStore.area e0 s0 el0 sl0 ledger batch kept records limit d0 d1 x raw

pub returns-in_err-append_changes-clause-within : goal.returns-in_err-append_changes-clause-within
returns-in_err-append_changes-clause-within g c = λ ledger kept batch records limit for_e for_s formed starts x.
    let laws_e = entry_laws g.E.EntryStore.topic_of g.E.EntryStore.start_of g.E.EntryStore.counts g.E.EntryStore.per_ledger g.E.EntryStore.failed g.E.EntryStore.holds g.E.EntryStore.stands g.E.EntryStore.area g.met.E.EntryStore.holds_works g.met.E.EntryStore.holds_counts g.met.E.EntryStore.holds_stands g.met.E.EntryStore.holds_behind g.met.E.EntryStore.stands_base g.met.E.EntryStore.stands_few g.met.E.EntryStore.area_segments g.met.E.EntryStore.holds_local in
    let laws_s = sub_laws g.C.SubStore.topic_of g.C.SubStore.start_of g.C.SubStore.content g.C.SubStore.failed g.C.SubStore.holds g.C.SubStore.written g.C.SubStore.stands g.C.SubStore.area g.met.C.SubStore.holds_works g.met.C.SubStore.holds_content g.met.C.SubStore.holds_stands g.met.C.SubStore.holds_longer g.met.C.SubStore.stands_longer g.met.C.SubStore.stands_fits g.met.C.SubStore.area_slots g.met.C.SubStore.holds_local g.met.C.SubStore.written_local in
    let e0 = entry_view g.E.EntryStore.topic_of g.E.EntryStore.start_of g.E.EntryStore.counts g.E.EntryStore.per_ledger g.E.EntryStore.failed g.E.EntryStore.holds c.args.self.now.entries in
    let s0 = sub_view g.C.SubStore.topic_of g.C.SubStore.start_of g.C.SubStore.content g.C.SubStore.failed g.C.SubStore.holds g.C.SubStore.written c.args.self.now.subscriptions in
    let el0 = laws_e c.args.self.now.entries in
    let sl0 = laws_s c.args.self.now.subscriptions in
    let d0 = g.S.Shelf.disk c.args.shelf.now in
    let d1 = g.S.Shelf.disk c.append_entries.new.shelf in
    let raw = (c.append_entries.ensures.appends ledger batch for_e (entries_settled e0 s0 d0 ledger kept x)).within in
    let d2 = g.S.Shelf.disk c.append_changes.new.shelf in
    let e1 = entry_view g.E.EntryStore.topic_of g.E.EntryStore.start_of g.E.EntryStore.counts g.E.EntryStore.per_ledger g.E.EntryStore.failed g.E.EntryStore.holds c.append_entries.new.store in
    let el1 = laws_e c.append_entries.new.store in
    let all : Ledger = lengthened ledger batch in
    let one : s0.topic ≡ e1.topic = x.settled.now.one_topic ∙ sym c.append_entries.ensures.topic in
    let start : e1.start ≡ s0.start = c.append_entries.ensures.start ∙ x.settled.now.one_start in
    let x1e = (c.in_ok-append_entries.ensures.appends ledger batch for_e (entries_settled e0 s0 d0 ledger kept x)).added in
    let x1s = subs_beside g.E.EntryStore.stands g.C.SubStore.stands g.E.EntryStore.area g.C.SubStore.area e0 s0 el0 sl0 ledger batch kept records limit d0 d1 x x1e.honest raw in
    let raw2 = (c.append_changes.ensures.appends (end_of all) s0.start kept records for_s formed starts x1s).within in
    let w1 = within_entries g.E.EntryStore.stands g.C.SubStore.stands g.E.EntryStore.area g.C.SubStore.area e0 s0 el0 sl0 ledger batch kept records limit d0 d1 x raw in
    let w2 = within_changes g.E.EntryStore.stands g.C.SubStore.stands g.E.EntryStore.area g.C.SubStore.area e1 s0 el1 sl0 ledger batch kept records limit d1 d2 one start x1e raw2 in
    let w2' = subst (λ t. Within (FilesOf t) (λ i. StandsFor (stand g.E.EntryStore.stands g.C.SubStore.stands t) (λ l k. IsLeft ledger kept batch records limit l k) i) d1 d2) c.append_entries.ensures.topic w2 in
    both_left g.E.EntryStore.stands g.C.SubStore.stands g.E.EntryStore.area g.C.SubStore.area e0 s0 el0 sl0 ledger batch kept records limit d0 d1 d2 w1 w2'

pub returns-clause-within : goal.returns-clause-within
returns-clause-within g c = λ ledger kept batch records limit for_e for_s formed starts x.
    let laws_e = entry_laws g.E.EntryStore.topic_of g.E.EntryStore.start_of g.E.EntryStore.counts g.E.EntryStore.per_ledger g.E.EntryStore.failed g.E.EntryStore.holds g.E.EntryStore.stands g.E.EntryStore.area g.met.E.EntryStore.holds_works g.met.E.EntryStore.holds_counts g.met.E.EntryStore.holds_stands g.met.E.EntryStore.holds_behind g.met.E.EntryStore.stands_base g.met.E.EntryStore.stands_few g.met.E.EntryStore.area_segments g.met.E.EntryStore.holds_local in
    let laws_s = sub_laws g.C.SubStore.topic_of g.C.SubStore.start_of g.C.SubStore.content g.C.SubStore.failed g.C.SubStore.holds g.C.SubStore.written g.C.SubStore.stands g.C.SubStore.area g.met.C.SubStore.holds_works g.met.C.SubStore.holds_content g.met.C.SubStore.holds_stands g.met.C.SubStore.holds_longer g.met.C.SubStore.stands_longer g.met.C.SubStore.stands_fits g.met.C.SubStore.area_slots g.met.C.SubStore.holds_local g.met.C.SubStore.written_local in
    let e0 = entry_view g.E.EntryStore.topic_of g.E.EntryStore.start_of g.E.EntryStore.counts g.E.EntryStore.per_ledger g.E.EntryStore.failed g.E.EntryStore.holds c.args.self.now.entries in
    let s0 = sub_view g.C.SubStore.topic_of g.C.SubStore.start_of g.C.SubStore.content g.C.SubStore.failed g.C.SubStore.holds g.C.SubStore.written c.args.self.now.subscriptions in
    let el0 = laws_e c.args.self.now.entries in
    let sl0 = laws_s c.args.self.now.subscriptions in
    let d0 = g.S.Shelf.disk c.args.shelf.now in
    let d1 = g.S.Shelf.disk c.append_entries.new.shelf in
    let raw = (c.append_entries.ensures.appends ledger batch for_e (entries_settled e0 s0 d0 ledger kept x)).within in
    let d2 = g.S.Shelf.disk c.append_changes.new.shelf in
    let e1 = entry_view g.E.EntryStore.topic_of g.E.EntryStore.start_of g.E.EntryStore.counts g.E.EntryStore.per_ledger g.E.EntryStore.failed g.E.EntryStore.holds c.append_entries.new.store in
    let el1 = laws_e c.append_entries.new.store in
    let all : Ledger = lengthened ledger batch in
    let one : s0.topic ≡ e1.topic = x.settled.now.one_topic ∙ sym c.append_entries.ensures.topic in
    let start : e1.start ≡ s0.start = c.append_entries.ensures.start ∙ x.settled.now.one_start in
    let x1e = (c.in_ok-append_entries.ensures.appends ledger batch for_e (entries_settled e0 s0 d0 ledger kept x)).added in
    let x1s = subs_beside g.E.EntryStore.stands g.C.SubStore.stands g.E.EntryStore.area g.C.SubStore.area e0 s0 el0 sl0 ledger batch kept records limit d0 d1 x x1e.honest raw in
    let raw2 = (c.append_changes.ensures.appends (end_of all) s0.start kept records for_s formed starts x1s).within in
    let w1 = within_entries g.E.EntryStore.stands g.C.SubStore.stands g.E.EntryStore.area g.C.SubStore.area e0 s0 el0 sl0 ledger batch kept records limit d0 d1 x raw in
    let w2 = within_changes g.E.EntryStore.stands g.C.SubStore.stands g.E.EntryStore.area g.C.SubStore.area e1 s0 el1 sl0 ledger batch kept records limit d1 d2 one start x1e raw2 in
    let w2' = subst (λ t. Within (FilesOf t) (λ i. StandsFor (stand g.E.EntryStore.stands g.C.SubStore.stands t) (λ l k. IsLeft ledger kept batch records limit l k) i) d1 d2) c.append_entries.ensures.topic w2 in
    both_left g.E.EntryStore.stands g.C.SubStore.stands g.E.EntryStore.area g.C.SubStore.area e0 s0 el0 sl0 ledger batch kept records limit d0 d1 d2 w1 w2'

pub returns-clause-written : goal.returns-clause-written
returns-clause-written g c = λ ledger kept batch records for_e for_s formed starts x.
    let laws_e = entry_laws g.E.EntryStore.topic_of g.E.EntryStore.start_of g.E.EntryStore.counts g.E.EntryStore.per_ledger g.E.EntryStore.failed g.E.EntryStore.holds g.E.EntryStore.stands g.E.EntryStore.area g.met.E.EntryStore.holds_works g.met.E.EntryStore.holds_counts g.met.E.EntryStore.holds_stands g.met.E.EntryStore.holds_behind g.met.E.EntryStore.stands_base g.met.E.EntryStore.stands_few g.met.E.EntryStore.area_segments g.met.E.EntryStore.holds_local in
    let laws_s = sub_laws g.C.SubStore.topic_of g.C.SubStore.start_of g.C.SubStore.content g.C.SubStore.failed g.C.SubStore.holds g.C.SubStore.written g.C.SubStore.stands g.C.SubStore.area g.met.C.SubStore.holds_works g.met.C.SubStore.holds_content g.met.C.SubStore.holds_stands g.met.C.SubStore.holds_longer g.met.C.SubStore.stands_longer g.met.C.SubStore.stands_fits g.met.C.SubStore.area_slots g.met.C.SubStore.holds_local g.met.C.SubStore.written_local in
    let e0 = entry_view g.E.EntryStore.topic_of g.E.EntryStore.start_of g.E.EntryStore.counts g.E.EntryStore.per_ledger g.E.EntryStore.failed g.E.EntryStore.holds c.args.self.now.entries in
    let s0 = sub_view g.C.SubStore.topic_of g.C.SubStore.start_of g.C.SubStore.content g.C.SubStore.failed g.C.SubStore.holds g.C.SubStore.written c.args.self.now.subscriptions in
    let el0 = laws_e c.args.self.now.entries in
    let sl0 = laws_s c.args.self.now.subscriptions in
    let d0 = g.S.Shelf.disk c.args.shelf.now in
    let d1 = g.S.Shelf.disk c.append_entries.new.shelf in
    let raw = (c.append_entries.ensures.appends ledger batch for_e (entries_settled e0 s0 d0 ledger kept x)).within in
    let d2 = g.S.Shelf.disk c.append_changes.new.shelf in
    let e1 = entry_view g.E.EntryStore.topic_of g.E.EntryStore.start_of g.E.EntryStore.counts g.E.EntryStore.per_ledger g.E.EntryStore.failed g.E.EntryStore.holds c.append_entries.new.store in
    let el1 = laws_e c.append_entries.new.store in
    let all : Ledger = lengthened ledger batch in
    let one : s0.topic ≡ e1.topic = x.settled.now.one_topic ∙ sym c.append_entries.ensures.topic in
    let start : e1.start ≡ s0.start = c.append_entries.ensures.start ∙ x.settled.now.one_start in
    let x1e = (c.in_ok-append_entries.ensures.appends ledger batch for_e (entries_settled e0 s0 d0 ledger kept x)).added in
    let x1s = subs_beside g.E.EntryStore.stands g.C.SubStore.stands g.E.EntryStore.area g.C.SubStore.area e0 s0 el0 sl0 ledger batch kept records 0 d0 d1 x x1e.honest raw in
    let raw2 = (c.append_changes.ensures.appends (end_of all) s0.start kept records for_s formed starts x1s).within in
    let s1 = sub_view g.C.SubStore.topic_of g.C.SubStore.start_of g.C.SubStore.content g.C.SubStore.failed g.C.SubStore.holds g.C.SubStore.written c.append_changes.new.store in
    let y2e = entries_beside g.E.EntryStore.stands g.C.SubStore.stands g.E.EntryStore.area g.C.SubStore.area e1 s0 el1 sl0 _ d1 d2 all one (c.append_changes.ensures.kept.honest x1e.honest) x1e raw2 in
    let y2s = (c.in_ok-append_changes.ensures.appends (end_of all) s0.start kept records for_s formed starts x1s).added in
    settled_both e1 s1 d2 all (after_all records kept) (c.append_changes.ensures.topic ∙ one) (still_served e0.topic e1.topic c.append_entries.ensures.topic x.settled.now.is_served) (start ∙ sym c.append_changes.ensures.start) y2e
    (subst (λ (said : Start). Steady (s1.holds (end_of all) said) s1.written d2 (after_all records kept)) (sym c.append_changes.ensures.start) y2s)

pub returns-in_err-append_entries-clause-known : goal.returns-in_err-append_entries-clause-known
returns-in_err-append_entries-clause-known g c = λ batch for_e some err. c.in_err-append_entries.ensures.known batch for_e some refl

pub returns-in_err-append_changes-clause-known : goal.returns-in_err-append_changes-clause-known
returns-in_err-append_changes-clause-known g c = λ batch for_e some err.
    let old = c.args.self.now.entries in
    known_written (g.E.EntryStore.per_ledger old) (length batch) (g.E.EntryStore.counts old) (g.E.EntryStore.counts c.append_entries.new.store) (c.in_ok-append_entries.ensures.segments batch for_e some)
