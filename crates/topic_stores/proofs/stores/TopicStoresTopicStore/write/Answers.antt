use Rattle.std.proofs.Common.{◌≡◌, inl, inr, ⊎_elim, ℕ, ◌+◌, ◌-◌, ◌<◌, ◌≤◌, ◌^◌, ◌||◌, ◌&&◌, Bool, List, length, drop, refl, sym, subst, ap, ◌∙◌, arith}
use Rattle.std.specs.Prelude.{IfSome, is_some}
use Rattle.std.proofs.lemmas.Bool.{true≢false}
use Rattle.std.proofs.lemmas.Result.{err_from_is_err_and}
use Rattle.disk.specs.Areas.{FilesOf, Within, weaken_within}
use Rattle.managed_ledger.specs.Shape.{total}
use Rattle.managed_ledger.specs.Points.{Begins, counts_with}
use Rattle.gated_log.specs.declared.start.Start.{Start}
use Rattle.managed_ledger.specs.Entries.{Entries, Ledger, AreEntries, end_of, lengthened}
use Rattle.records.specs.Floors.{StartFrom}
use Rattle.cursor_store.specs.Behind.{is_due_at}
use Rattle.cursor_store.specs.Trimming.{HasGeneration, IsKeptBehind}
use Rattle.records.specs.Maps.{Kept}
use Rattle.records.specs.Records.{AreFormed, after_all}
use Rattle.records.specs.declared.record.Record.{Record}
use Rattle.topic_stores.specs.Appends.{PreparedFor}
use Rattle.topic_stores.specs.Views.{entry_view, sub_view, stand}
use Rattle.topic_stores.specs.Laws.{entry_laws, sub_laws}
use Rattle.topic_stores.specs.Writing.{AreKnownWhole, IsLeft, StandsFor}
use Rattle.topic_stores.proofs.Forms.{are_entries, formed_longer, formed_there}
use Rattle.topic_stores.proofs.Writing.{StaysEntries, StaysSubs, settled_still, within_none, served_within, both_left}
use Rattle.topic_stores.proofs.Ending.{kept_behind, none_settled, none_trimmed, some_settled, some_trimmed, either_left}
use Rattle.topic_stores.proofs.Trimming.{one_left}
use Rattle.topic_stores.proofs.Sizes.{known_old, known_written}
use Rattle.topic_stores.proofs.stores.TopicStoresTopicStore.write.Goals as goal

pub prepare_entries-requires-clause-readable : goal.prepare_entries-requires-clause-readable
prepare_entries-requires-clause-readable g c =
    subst (λ (l : Entries). AreEntries l) (sym c.as_slice.ensures.value) (are_entries c.args.batch.now.entries.items c.args.batch.now.readable)

pub prepare_changes-requires-clause-formed : goal.prepare_changes-requires-clause-formed
prepare_changes-requires-clause-formed g c =
    let n = (g.E.EntryStore.start_of c.args.self.now.entries).base + total (g.E.EntryStore.counts c.args.self.now.entries) + length c.args.batch.now.entries.items in
    let low : n ≤ 2 ^ 62 = c.requires.fits.few in
    subst (λ (l : List Record). AreFormed (2 ^ 62) (g.C.SubStore.content c.args.self.now.subscriptions) l) (sym c.as_slice-2.ensures.value)
    (formed_longer n (2 ^ 62) c.args.batch.now.changes.items (g.C.SubStore.content c.args.self.now.subscriptions) low c.requires.fits.formed)

pub returns-in_err-check_works-clause-within : goal.returns-in_err-check_works-clause-within
returns-in_err-check_works-clause-within g c = λ ledger kept x.
    let d0 = g.S.Shelf.disk c.args.shelf.now in
    let batch = c.args.batch.now.entries.items in
    let changes = c.args.batch.now.changes.items in
    let limit = c.args.batch.now.trim in
    let e0 = entry_view g.E.EntryStore.topic_of g.E.EntryStore.start_of g.E.EntryStore.counts g.E.EntryStore.per_ledger g.E.EntryStore.failed g.E.EntryStore.holds c.args.self.now.entries in
    let s0 = sub_view g.C.SubStore.topic_of g.C.SubStore.start_of g.C.SubStore.content g.C.SubStore.failed g.C.SubStore.holds g.C.SubStore.written c.args.self.now.subscriptions in
    let el0 = (entry_laws g.E.EntryStore.topic_of g.E.EntryStore.start_of g.E.EntryStore.counts g.E.EntryStore.per_ledger g.E.EntryStore.failed g.E.EntryStore.holds g.E.EntryStore.stands g.E.EntryStore.area g.met.E.EntryStore.holds_works g.met.E.EntryStore.holds_counts g.met.E.EntryStore.holds_stands g.met.E.EntryStore.holds_behind g.met.E.EntryStore.stands_base g.met.E.EntryStore.stands_few g.met.E.EntryStore.area_segments g.met.E.EntryStore.holds_local) c.args.self.now.entries in
    let sl0 = (sub_laws g.C.SubStore.topic_of g.C.SubStore.start_of g.C.SubStore.content g.C.SubStore.failed g.C.SubStore.holds g.C.SubStore.written g.C.SubStore.stands g.C.SubStore.area g.met.C.SubStore.holds_works g.met.C.SubStore.holds_content g.met.C.SubStore.holds_stands g.met.C.SubStore.holds_longer g.met.C.SubStore.stands_longer g.met.C.SubStore.stands_fits g.met.C.SubStore.area_slots g.met.C.SubStore.holds_local g.met.C.SubStore.written_local) c.args.self.now.subscriptions in
    served_within g.E.EntryStore.stands g.C.SubStore.stands g.E.EntryStore.area g.C.SubStore.area e0 s0 el0 sl0 ledger batch kept changes limit d0 d0 x.settled.now.is_served
    (within_none g.E.EntryStore.stands g.C.SubStore.stands g.E.EntryStore.area g.C.SubStore.area e0 s0 el0 sl0 ledger batch kept changes limit d0 x)

pub returns-in_err-entries-clause-within : goal.returns-in_err-entries-clause-within
returns-in_err-entries-clause-within g c = λ ledger kept x.
    let d0 = g.S.Shelf.disk c.args.shelf.now in
    let batch = c.args.batch.now.entries.items in
    let changes = c.args.batch.now.changes.items in
    let limit = c.args.batch.now.trim in
    let e0 = entry_view g.E.EntryStore.topic_of g.E.EntryStore.start_of g.E.EntryStore.counts g.E.EntryStore.per_ledger g.E.EntryStore.failed g.E.EntryStore.holds c.args.self.now.entries in
    let s0 = sub_view g.C.SubStore.topic_of g.C.SubStore.start_of g.C.SubStore.content g.C.SubStore.failed g.C.SubStore.holds g.C.SubStore.written c.args.self.now.subscriptions in
    let el0 = (entry_laws g.E.EntryStore.topic_of g.E.EntryStore.start_of g.E.EntryStore.counts g.E.EntryStore.per_ledger g.E.EntryStore.failed g.E.EntryStore.holds g.E.EntryStore.stands g.E.EntryStore.area g.met.E.EntryStore.holds_works g.met.E.EntryStore.holds_counts g.met.E.EntryStore.holds_stands g.met.E.EntryStore.holds_behind g.met.E.EntryStore.stands_base g.met.E.EntryStore.stands_few g.met.E.EntryStore.area_segments g.met.E.EntryStore.holds_local) c.args.self.now.entries in
    let sl0 = (sub_laws g.C.SubStore.topic_of g.C.SubStore.start_of g.C.SubStore.content g.C.SubStore.failed g.C.SubStore.holds g.C.SubStore.written g.C.SubStore.stands g.C.SubStore.area g.met.C.SubStore.holds_works g.met.C.SubStore.holds_content g.met.C.SubStore.holds_stands g.met.C.SubStore.holds_longer g.met.C.SubStore.stands_longer g.met.C.SubStore.stands_fits g.met.C.SubStore.area_slots g.met.C.SubStore.holds_local g.met.C.SubStore.written_local) c.args.self.now.subscriptions in
    served_within g.E.EntryStore.stands g.C.SubStore.stands g.E.EntryStore.area g.C.SubStore.area e0 s0 el0 sl0 ledger batch kept changes limit d0 d0 x.settled.now.is_served
    (within_none g.E.EntryStore.stands g.C.SubStore.stands g.E.EntryStore.area g.C.SubStore.area e0 s0 el0 sl0 ledger batch kept changes limit d0 x)

pub returns-in_err-changes-clause-within : goal.returns-in_err-changes-clause-within
returns-in_err-changes-clause-within g c = λ ledger kept x.
    let d0 = g.S.Shelf.disk c.args.shelf.now in
    let batch = c.args.batch.now.entries.items in
    let changes = c.args.batch.now.changes.items in
    let limit = c.args.batch.now.trim in
    let e0 = entry_view g.E.EntryStore.topic_of g.E.EntryStore.start_of g.E.EntryStore.counts g.E.EntryStore.per_ledger g.E.EntryStore.failed g.E.EntryStore.holds c.args.self.now.entries in
    let s0 = sub_view g.C.SubStore.topic_of g.C.SubStore.start_of g.C.SubStore.content g.C.SubStore.failed g.C.SubStore.holds g.C.SubStore.written c.args.self.now.subscriptions in
    let el0 = (entry_laws g.E.EntryStore.topic_of g.E.EntryStore.start_of g.E.EntryStore.counts g.E.EntryStore.per_ledger g.E.EntryStore.failed g.E.EntryStore.holds g.E.EntryStore.stands g.E.EntryStore.area g.met.E.EntryStore.holds_works g.met.E.EntryStore.holds_counts g.met.E.EntryStore.holds_stands g.met.E.EntryStore.holds_behind g.met.E.EntryStore.stands_base g.met.E.EntryStore.stands_few g.met.E.EntryStore.area_segments g.met.E.EntryStore.holds_local) c.args.self.now.entries in
    let sl0 = (sub_laws g.C.SubStore.topic_of g.C.SubStore.start_of g.C.SubStore.content g.C.SubStore.failed g.C.SubStore.holds g.C.SubStore.written g.C.SubStore.stands g.C.SubStore.area g.met.C.SubStore.holds_works g.met.C.SubStore.holds_content g.met.C.SubStore.holds_stands g.met.C.SubStore.holds_longer g.met.C.SubStore.stands_longer g.met.C.SubStore.stands_fits g.met.C.SubStore.area_slots g.met.C.SubStore.holds_local g.met.C.SubStore.written_local) c.args.self.now.subscriptions in
    served_within g.E.EntryStore.stands g.C.SubStore.stands g.E.EntryStore.area g.C.SubStore.area e0 s0 el0 sl0 ledger batch kept changes limit d0 d0 x.settled.now.is_served
    (within_none g.E.EntryStore.stands g.C.SubStore.stands g.E.EntryStore.area g.C.SubStore.area e0 s0 el0 sl0 ledger batch kept changes limit d0 x)

pub returns-in_err-point-clause-within : goal.returns-in_err-point-clause-within
returns-in_err-point-clause-within g c = λ ledger kept x.
    let d0 = g.S.Shelf.disk c.args.shelf.now in
    let batch = c.args.batch.now.entries.items in
    let changes = c.args.batch.now.changes.items in
    let limit = c.args.batch.now.trim in
    let e0 = entry_view g.E.EntryStore.topic_of g.E.EntryStore.start_of g.E.EntryStore.counts g.E.EntryStore.per_ledger g.E.EntryStore.failed g.E.EntryStore.holds c.args.self.now.entries in
    let s0 = sub_view g.C.SubStore.topic_of g.C.SubStore.start_of g.C.SubStore.content g.C.SubStore.failed g.C.SubStore.holds g.C.SubStore.written c.args.self.now.subscriptions in
    let el0 = (entry_laws g.E.EntryStore.topic_of g.E.EntryStore.start_of g.E.EntryStore.counts g.E.EntryStore.per_ledger g.E.EntryStore.failed g.E.EntryStore.holds g.E.EntryStore.stands g.E.EntryStore.area g.met.E.EntryStore.holds_works g.met.E.EntryStore.holds_counts g.met.E.EntryStore.holds_stands g.met.E.EntryStore.holds_behind g.met.E.EntryStore.stands_base g.met.E.EntryStore.stands_few g.met.E.EntryStore.area_segments g.met.E.EntryStore.holds_local) c.args.self.now.entries in
    let sl0 = (sub_laws g.C.SubStore.topic_of g.C.SubStore.start_of g.C.SubStore.content g.C.SubStore.failed g.C.SubStore.holds g.C.SubStore.written g.C.SubStore.stands g.C.SubStore.area g.met.C.SubStore.holds_works g.met.C.SubStore.holds_content g.met.C.SubStore.holds_stands g.met.C.SubStore.holds_longer g.met.C.SubStore.stands_longer g.met.C.SubStore.stands_fits g.met.C.SubStore.area_slots g.met.C.SubStore.holds_local g.met.C.SubStore.written_local) c.args.self.now.subscriptions in
    served_within g.E.EntryStore.stands g.C.SubStore.stands g.E.EntryStore.area g.C.SubStore.area e0 s0 el0 sl0 ledger batch kept changes limit d0 d0 x.settled.now.is_served
    (within_none g.E.EntryStore.stands g.C.SubStore.stands g.E.EntryStore.area g.C.SubStore.area e0 s0 el0 sl0 ledger batch kept changes limit d0 x)

pub returns-in_err-append-clause-within : goal.returns-in_err-append-clause-within
returns-in_err-append-clause-within g c = λ ledger kept x.
    let d0 = g.S.Shelf.disk c.args.shelf.now in
    let batch = c.args.batch.now.entries.items in
    let changes = c.args.batch.now.changes.items in
    let limit = c.args.batch.now.trim in
    let e0 = entry_view g.E.EntryStore.topic_of g.E.EntryStore.start_of g.E.EntryStore.counts g.E.EntryStore.per_ledger g.E.EntryStore.failed g.E.EntryStore.holds c.args.self.now.entries in
    let s0 = sub_view g.C.SubStore.topic_of g.C.SubStore.start_of g.C.SubStore.content g.C.SubStore.failed g.C.SubStore.holds g.C.SubStore.written c.args.self.now.subscriptions in
    let el0 = (entry_laws g.E.EntryStore.topic_of g.E.EntryStore.start_of g.E.EntryStore.counts g.E.EntryStore.per_ledger g.E.EntryStore.failed g.E.EntryStore.holds g.E.EntryStore.stands g.E.EntryStore.area g.met.E.EntryStore.holds_works g.met.E.EntryStore.holds_counts g.met.E.EntryStore.holds_stands g.met.E.EntryStore.holds_behind g.met.E.EntryStore.stands_base g.met.E.EntryStore.stands_few g.met.E.EntryStore.area_segments g.met.E.EntryStore.holds_local) c.args.self.now.entries in
    let sl0 = (sub_laws g.C.SubStore.topic_of g.C.SubStore.start_of g.C.SubStore.content g.C.SubStore.failed g.C.SubStore.holds g.C.SubStore.written g.C.SubStore.stands g.C.SubStore.area g.met.C.SubStore.holds_works g.met.C.SubStore.holds_content g.met.C.SubStore.holds_stands g.met.C.SubStore.holds_longer g.met.C.SubStore.stands_longer g.met.C.SubStore.stands_fits g.met.C.SubStore.area_slots g.met.C.SubStore.holds_local g.met.C.SubStore.written_local) c.args.self.now.subscriptions in
    let e1 = entry_view g.E.EntryStore.topic_of g.E.EntryStore.start_of g.E.EntryStore.counts g.E.EntryStore.per_ledger g.E.EntryStore.failed g.E.EntryStore.holds c.prepare_entries.new.store in
    let s1 = sub_view g.C.SubStore.topic_of g.C.SubStore.start_of g.C.SubStore.content g.C.SubStore.failed g.C.SubStore.holds g.C.SubStore.written c.prepare_changes.new.store in
    let stays_e : StaysEntries e0 e1 = record { topic = c.prepare_entries.ensures.topic; start = c.prepare_entries.ensures.start; holds_still = c.prepare_entries.ensures.unchanged.holds_still } in
    let stays_s : StaysSubs s0 s1 = record { topic = c.prepare_changes.ensures.topic; start = c.prepare_changes.ensures.start; holds_still = c.prepare_changes.ensures.holds_still; written = c.prepare_changes.ensures.written } in
    let x1 = settled_still e0 e1 s0 s1 d0 ledger kept stays_e stays_s x in
    let for_e = subst (λ (l : Entries). PreparedFor g.E.EntryStore.is_for c.in_ok-entries.entries l) c.as_slice.ensures.value c.in_ok-entries.ensures.prepared in
    let for_s = subst (λ (l : List Record). PreparedFor (g.C.SubStore.is_for c.prepare_changes.new.store) c.in_ok-changes.changes l) c.as_slice-2.ensures.value c.in_ok-changes.ensures.prepared in
    let held = sl0.content (end_of ledger) s0.start d0.seen kept x.settled.now.subscriptions in
    let formed = formed_there (e0.start.base + total e0.counts) ledger batch kept s0.kept changes (el0.counts d0.seen ledger x.settled.now.entries) held c.requires.fits.formed in
    let starts = subst (λ (said : Start). StartFrom said.base changes) (sym c.prepare_changes.ensures.start) c.requires.fits.starts in
    let d1 = g.S.Shelf.disk c.append.new.shelf in
    let w1 = c.append.ensures.within ledger kept batch changes limit for_e for_s formed starts x1 in
    served_within g.E.EntryStore.stands g.C.SubStore.stands g.E.EntryStore.area g.C.SubStore.area e0 s0 el0 sl0 ledger batch kept changes limit d0 d1 x.settled.now.is_served
    (subst (λ t. Within (FilesOf t) (λ i. StandsFor (stand g.E.EntryStore.stands g.C.SubStore.stands t) (λ l k. IsLeft ledger kept batch changes limit l k) i) d0 d1) c.prepare_entries.ensures.topic w1)

pub returns-in_default-clause-within : goal.returns-in_default-clause-within
returns-in_default-clause-within g c = λ ledger kept x.
    let d0 = g.S.Shelf.disk c.args.shelf.now in
    let batch = c.args.batch.now.entries.items in
    let changes = c.args.batch.now.changes.items in
    let limit = c.args.batch.now.trim in
    let e0 = entry_view g.E.EntryStore.topic_of g.E.EntryStore.start_of g.E.EntryStore.counts g.E.EntryStore.per_ledger g.E.EntryStore.failed g.E.EntryStore.holds c.args.self.now.entries in
    let s0 = sub_view g.C.SubStore.topic_of g.C.SubStore.start_of g.C.SubStore.content g.C.SubStore.failed g.C.SubStore.holds g.C.SubStore.written c.args.self.now.subscriptions in
    let el0 = (entry_laws g.E.EntryStore.topic_of g.E.EntryStore.start_of g.E.EntryStore.counts g.E.EntryStore.per_ledger g.E.EntryStore.failed g.E.EntryStore.holds g.E.EntryStore.stands g.E.EntryStore.area g.met.E.EntryStore.holds_works g.met.E.EntryStore.holds_counts g.met.E.EntryStore.holds_stands g.met.E.EntryStore.holds_behind g.met.E.EntryStore.stands_base g.met.E.EntryStore.stands_few g.met.E.EntryStore.area_segments g.met.E.EntryStore.holds_local) c.args.self.now.entries in
    let sl0 = (sub_laws g.C.SubStore.topic_of g.C.SubStore.start_of g.C.SubStore.content g.C.SubStore.failed g.C.SubStore.holds g.C.SubStore.written g.C.SubStore.stands g.C.SubStore.area g.met.C.SubStore.holds_works g.met.C.SubStore.holds_content g.met.C.SubStore.holds_stands g.met.C.SubStore.holds_longer g.met.C.SubStore.stands_longer g.met.C.SubStore.stands_fits g.met.C.SubStore.area_slots g.met.C.SubStore.holds_local g.met.C.SubStore.written_local) c.args.self.now.subscriptions in
    let e1 = entry_view g.E.EntryStore.topic_of g.E.EntryStore.start_of g.E.EntryStore.counts g.E.EntryStore.per_ledger g.E.EntryStore.failed g.E.EntryStore.holds c.prepare_entries.new.store in
    let s1 = sub_view g.C.SubStore.topic_of g.C.SubStore.start_of g.C.SubStore.content g.C.SubStore.failed g.C.SubStore.holds g.C.SubStore.written c.prepare_changes.new.store in
    let stays_e : StaysEntries e0 e1 = record { topic = c.prepare_entries.ensures.topic; start = c.prepare_entries.ensures.start; holds_still = c.prepare_entries.ensures.unchanged.holds_still } in
    let stays_s : StaysSubs s0 s1 = record { topic = c.prepare_changes.ensures.topic; start = c.prepare_changes.ensures.start; holds_still = c.prepare_changes.ensures.holds_still; written = c.prepare_changes.ensures.written } in
    let x1 = settled_still e0 e1 s0 s1 d0 ledger kept stays_e stays_s x in
    let for_e = subst (λ (l : Entries). PreparedFor g.E.EntryStore.is_for c.in_ok-entries.entries l) c.as_slice.ensures.value c.in_ok-entries.ensures.prepared in
    let for_s = subst (λ (l : List Record). PreparedFor (g.C.SubStore.is_for c.prepare_changes.new.store) c.in_ok-changes.changes l) c.as_slice-2.ensures.value c.in_ok-changes.ensures.prepared in
    let held = sl0.content (end_of ledger) s0.start d0.seen kept x.settled.now.subscriptions in
    let formed = formed_there (e0.start.base + total e0.counts) ledger batch kept s0.kept changes (el0.counts d0.seen ledger x.settled.now.entries) held c.requires.fits.formed in
    let starts = subst (λ (said : Start). StartFrom said.base changes) (sym c.prepare_changes.ensures.start) c.requires.fits.starts in
    let d1 = g.S.Shelf.disk c.append.new.shelf in
    let w1 = c.append.ensures.within ledger kept batch changes limit for_e for_s formed starts x1 in
    served_within g.E.EntryStore.stands g.C.SubStore.stands g.E.EntryStore.area g.C.SubStore.area e0 s0 el0 sl0 ledger batch kept changes limit d0 d1 x.settled.now.is_served
    (subst (λ t. Within (FilesOf t) (λ i. StandsFor (stand g.E.EntryStore.stands g.C.SubStore.stands t) (λ l k. IsLeft ledger kept batch changes limit l k) i) d0 d1) c.prepare_entries.ensures.topic w1)

pub returns-in_default-clause-written : goal.returns-in_default-clause-written
returns-in_default-clause-written g c = λ ledger kept x.
    let d0 = g.S.Shelf.disk c.args.shelf.now in
    let batch = c.args.batch.now.entries.items in
    let changes = c.args.batch.now.changes.items in
    let limit = c.args.batch.now.trim in
    let e0 = entry_view g.E.EntryStore.topic_of g.E.EntryStore.start_of g.E.EntryStore.counts g.E.EntryStore.per_ledger g.E.EntryStore.failed g.E.EntryStore.holds c.args.self.now.entries in
    let s0 = sub_view g.C.SubStore.topic_of g.C.SubStore.start_of g.C.SubStore.content g.C.SubStore.failed g.C.SubStore.holds g.C.SubStore.written c.args.self.now.subscriptions in
    let el0 = (entry_laws g.E.EntryStore.topic_of g.E.EntryStore.start_of g.E.EntryStore.counts g.E.EntryStore.per_ledger g.E.EntryStore.failed g.E.EntryStore.holds g.E.EntryStore.stands g.E.EntryStore.area g.met.E.EntryStore.holds_works g.met.E.EntryStore.holds_counts g.met.E.EntryStore.holds_stands g.met.E.EntryStore.holds_behind g.met.E.EntryStore.stands_base g.met.E.EntryStore.stands_few g.met.E.EntryStore.area_segments g.met.E.EntryStore.holds_local) c.args.self.now.entries in
    let sl0 = (sub_laws g.C.SubStore.topic_of g.C.SubStore.start_of g.C.SubStore.content g.C.SubStore.failed g.C.SubStore.holds g.C.SubStore.written g.C.SubStore.stands g.C.SubStore.area g.met.C.SubStore.holds_works g.met.C.SubStore.holds_content g.met.C.SubStore.holds_stands g.met.C.SubStore.holds_longer g.met.C.SubStore.stands_longer g.met.C.SubStore.stands_fits g.met.C.SubStore.area_slots g.met.C.SubStore.holds_local g.met.C.SubStore.written_local) c.args.self.now.subscriptions in
    let e1 = entry_view g.E.EntryStore.topic_of g.E.EntryStore.start_of g.E.EntryStore.counts g.E.EntryStore.per_ledger g.E.EntryStore.failed g.E.EntryStore.holds c.prepare_entries.new.store in
    let s1 = sub_view g.C.SubStore.topic_of g.C.SubStore.start_of g.C.SubStore.content g.C.SubStore.failed g.C.SubStore.holds g.C.SubStore.written c.prepare_changes.new.store in
    let stays_e : StaysEntries e0 e1 = record { topic = c.prepare_entries.ensures.topic; start = c.prepare_entries.ensures.start; holds_still = c.prepare_entries.ensures.unchanged.holds_still } in
    let stays_s : StaysSubs s0 s1 = record { topic = c.prepare_changes.ensures.topic; start = c.prepare_changes.ensures.start; holds_still = c.prepare_changes.ensures.holds_still; written = c.prepare_changes.ensures.written } in
    let x1 = settled_still e0 e1 s0 s1 d0 ledger kept stays_e stays_s x in
    let for_e = subst (λ (l : Entries). PreparedFor g.E.EntryStore.is_for c.in_ok-entries.entries l) c.as_slice.ensures.value c.in_ok-entries.ensures.prepared in
    let for_s = subst (λ (l : List Record). PreparedFor (g.C.SubStore.is_for c.prepare_changes.new.store) c.in_ok-changes.changes l) c.as_slice-2.ensures.value c.in_ok-changes.ensures.prepared in
    let held = sl0.content (end_of ledger) s0.start d0.seen kept x.settled.now.subscriptions in
    let formed = formed_there (e0.start.base + total e0.counts) ledger batch kept s0.kept changes (el0.counts d0.seen ledger x.settled.now.entries) held c.requires.fits.formed in
    let starts = subst (λ (said : Start). StartFrom said.base changes) (sym c.prepare_changes.ensures.start) c.requires.fits.starts in
    let d1 = g.S.Shelf.disk c.append.new.shelf in
    let w1 = c.append.ensures.within ledger kept batch changes limit for_e for_s formed starts x1 in
    let all : Ledger = lengthened ledger batch in
    let later = after_all changes kept in
    let e2 = entry_view g.E.EntryStore.topic_of g.E.EntryStore.start_of g.E.EntryStore.counts g.E.EntryStore.per_ledger g.E.EntryStore.failed g.E.EntryStore.holds c.append.new.self.entries in
    let s2 = sub_view g.C.SubStore.topic_of g.C.SubStore.start_of g.C.SubStore.content g.C.SubStore.failed g.C.SubStore.holds g.C.SubStore.written c.append.new.self.subscriptions in
    let x2 = c.in_ok-append.ensures.written ledger kept batch changes for_e for_s formed starts x1 in
    let later_kept = ap (λ (k : Kept). after_all changes k) (c.prepare_changes.ensures.content ∙ held) in
    let el2 = (entry_laws g.E.EntryStore.topic_of g.E.EntryStore.start_of g.E.EntryStore.counts g.E.EntryStore.per_ledger g.E.EntryStore.failed g.E.EntryStore.holds g.E.EntryStore.stands g.E.EntryStore.area g.met.E.EntryStore.holds_works g.met.E.EntryStore.holds_counts g.met.E.EntryStore.holds_stands g.met.E.EntryStore.holds_behind g.met.E.EntryStore.stands_base g.met.E.EntryStore.stands_few g.met.E.EntryStore.area_segments g.met.E.EntryStore.holds_local) c.append.new.self.entries in
    let sl2 = (sub_laws g.C.SubStore.topic_of g.C.SubStore.start_of g.C.SubStore.content g.C.SubStore.failed g.C.SubStore.holds g.C.SubStore.written g.C.SubStore.stands g.C.SubStore.area g.met.C.SubStore.holds_works g.met.C.SubStore.holds_content g.met.C.SubStore.holds_stands g.met.C.SubStore.holds_longer g.met.C.SubStore.stands_longer g.met.C.SubStore.stands_fits g.met.C.SubStore.area_slots g.met.C.SubStore.holds_local g.met.C.SubStore.written_local) c.append.new.self.subscriptions in
    none_settled g.E.EntryStore.stands g.C.SubStore.stands g.E.EntryStore.area g.C.SubStore.area e2 s2 el2 sl2 d1 all later c.start.result.base (ap (λ (s : Start). s.base) c.start.ensures) x2

pub returns-in_default-clause-trimmed : goal.returns-in_default-clause-trimmed
returns-in_default-clause-trimmed g c = λ ledger kept x.
    let d0 = g.S.Shelf.disk c.args.shelf.now in
    let batch = c.args.batch.now.entries.items in
    let changes = c.args.batch.now.changes.items in
    let limit = c.args.batch.now.trim in
    let e0 = entry_view g.E.EntryStore.topic_of g.E.EntryStore.start_of g.E.EntryStore.counts g.E.EntryStore.per_ledger g.E.EntryStore.failed g.E.EntryStore.holds c.args.self.now.entries in
    let s0 = sub_view g.C.SubStore.topic_of g.C.SubStore.start_of g.C.SubStore.content g.C.SubStore.failed g.C.SubStore.holds g.C.SubStore.written c.args.self.now.subscriptions in
    let el0 = (entry_laws g.E.EntryStore.topic_of g.E.EntryStore.start_of g.E.EntryStore.counts g.E.EntryStore.per_ledger g.E.EntryStore.failed g.E.EntryStore.holds g.E.EntryStore.stands g.E.EntryStore.area g.met.E.EntryStore.holds_works g.met.E.EntryStore.holds_counts g.met.E.EntryStore.holds_stands g.met.E.EntryStore.holds_behind g.met.E.EntryStore.stands_base g.met.E.EntryStore.stands_few g.met.E.EntryStore.area_segments g.met.E.EntryStore.holds_local) c.args.self.now.entries in
    let sl0 = (sub_laws g.C.SubStore.topic_of g.C.SubStore.start_of g.C.SubStore.content g.C.SubStore.failed g.C.SubStore.holds g.C.SubStore.written g.C.SubStore.stands g.C.SubStore.area g.met.C.SubStore.holds_works g.met.C.SubStore.holds_content g.met.C.SubStore.holds_stands g.met.C.SubStore.holds_longer g.met.C.SubStore.stands_longer g.met.C.SubStore.stands_fits g.met.C.SubStore.area_slots g.met.C.SubStore.holds_local g.met.C.SubStore.written_local) c.args.self.now.subscriptions in
    let e1 = entry_view g.E.EntryStore.topic_of g.E.EntryStore.start_of g.E.EntryStore.counts g.E.EntryStore.per_ledger g.E.EntryStore.failed g.E.EntryStore.holds c.prepare_entries.new.store in
    let s1 = sub_view g.C.SubStore.topic_of g.C.SubStore.start_of g.C.SubStore.content g.C.SubStore.failed g.C.SubStore.holds g.C.SubStore.written c.prepare_changes.new.store in
    let stays_e : StaysEntries e0 e1 = record { topic = c.prepare_entries.ensures.topic; start = c.prepare_entries.ensures.start; holds_still = c.prepare_entries.ensures.unchanged.holds_still } in
    let stays_s : StaysSubs s0 s1 = record { topic = c.prepare_changes.ensures.topic; start = c.prepare_changes.ensures.start; holds_still = c.prepare_changes.ensures.holds_still; written = c.prepare_changes.ensures.written } in
    let x1 = settled_still e0 e1 s0 s1 d0 ledger kept stays_e stays_s x in
    let for_e = subst (λ (l : Entries). PreparedFor g.E.EntryStore.is_for c.in_ok-entries.entries l) c.as_slice.ensures.value c.in_ok-entries.ensures.prepared in
    let for_s = subst (λ (l : List Record). PreparedFor (g.C.SubStore.is_for c.prepare_changes.new.store) c.in_ok-changes.changes l) c.as_slice-2.ensures.value c.in_ok-changes.ensures.prepared in
    let held = sl0.content (end_of ledger) s0.start d0.seen kept x.settled.now.subscriptions in
    let formed = formed_there (e0.start.base + total e0.counts) ledger batch kept s0.kept changes (el0.counts d0.seen ledger x.settled.now.entries) held c.requires.fits.formed in
    let starts = subst (λ (said : Start). StartFrom said.base changes) (sym c.prepare_changes.ensures.start) c.requires.fits.starts in
    let d1 = g.S.Shelf.disk c.append.new.shelf in
    let w1 = c.append.ensures.within ledger kept batch changes limit for_e for_s formed starts x1 in
    let all : Ledger = lengthened ledger batch in
    let later = after_all changes kept in
    let e2 = entry_view g.E.EntryStore.topic_of g.E.EntryStore.start_of g.E.EntryStore.counts g.E.EntryStore.per_ledger g.E.EntryStore.failed g.E.EntryStore.holds c.append.new.self.entries in
    let s2 = sub_view g.C.SubStore.topic_of g.C.SubStore.start_of g.C.SubStore.content g.C.SubStore.failed g.C.SubStore.holds g.C.SubStore.written c.append.new.self.subscriptions in
    let x2 = c.in_ok-append.ensures.written ledger kept batch changes for_e for_s formed starts x1 in
    let later_kept = ap (λ (k : Kept). after_all changes k) (c.prepare_changes.ensures.content ∙ held) in
    let el2 = (entry_laws g.E.EntryStore.topic_of g.E.EntryStore.start_of g.E.EntryStore.counts g.E.EntryStore.per_ledger g.E.EntryStore.failed g.E.EntryStore.holds g.E.EntryStore.stands g.E.EntryStore.area g.met.E.EntryStore.holds_works g.met.E.EntryStore.holds_counts g.met.E.EntryStore.holds_stands g.met.E.EntryStore.holds_behind g.met.E.EntryStore.stands_base g.met.E.EntryStore.stands_few g.met.E.EntryStore.area_segments g.met.E.EntryStore.holds_local) c.append.new.self.entries in
    let sl2 = (sub_laws g.C.SubStore.topic_of g.C.SubStore.start_of g.C.SubStore.content g.C.SubStore.failed g.C.SubStore.holds g.C.SubStore.written g.C.SubStore.stands g.C.SubStore.area g.met.C.SubStore.holds_works g.met.C.SubStore.holds_content g.met.C.SubStore.holds_stands g.met.C.SubStore.holds_longer g.met.C.SubStore.stands_longer g.met.C.SubStore.stands_fits g.met.C.SubStore.area_slots g.met.C.SubStore.holds_local g.met.C.SubStore.written_local) c.append.new.self.subscriptions in
    none_trimmed g.E.EntryStore.stands g.C.SubStore.stands g.E.EntryStore.area g.C.SubStore.area e2 s2 el2 sl2 d1 all later limit c.start.result.base (ap (λ (s : Start). s.base) c.start.ensures) x2

pub returns-in_err-trim-clause-within : goal.returns-in_err-trim-clause-within
returns-in_err-trim-clause-within g c = λ ledger kept x.
    let d0 = g.S.Shelf.disk c.args.shelf.now in
    let batch = c.args.batch.now.entries.items in
    let changes = c.args.batch.now.changes.items in
    let limit = c.args.batch.now.trim in
    let e0 = entry_view g.E.EntryStore.topic_of g.E.EntryStore.start_of g.E.EntryStore.counts g.E.EntryStore.per_ledger g.E.EntryStore.failed g.E.EntryStore.holds c.args.self.now.entries in
    let s0 = sub_view g.C.SubStore.topic_of g.C.SubStore.start_of g.C.SubStore.content g.C.SubStore.failed g.C.SubStore.holds g.C.SubStore.written c.args.self.now.subscriptions in
    let el0 = (entry_laws g.E.EntryStore.topic_of g.E.EntryStore.start_of g.E.EntryStore.counts g.E.EntryStore.per_ledger g.E.EntryStore.failed g.E.EntryStore.holds g.E.EntryStore.stands g.E.EntryStore.area g.met.E.EntryStore.holds_works g.met.E.EntryStore.holds_counts g.met.E.EntryStore.holds_stands g.met.E.EntryStore.holds_behind g.met.E.EntryStore.stands_base g.met.E.EntryStore.stands_few g.met.E.EntryStore.area_segments g.met.E.EntryStore.holds_local) c.args.self.now.entries in
    let sl0 = (sub_laws g.C.SubStore.topic_of g.C.SubStore.start_of g.C.SubStore.content g.C.SubStore.failed g.C.SubStore.holds g.C.SubStore.written g.C.SubStore.stands g.C.SubStore.area g.met.C.SubStore.holds_works g.met.C.SubStore.holds_content g.met.C.SubStore.holds_stands g.met.C.SubStore.holds_longer g.met.C.SubStore.stands_longer g.met.C.SubStore.stands_fits g.met.C.SubStore.area_slots g.met.C.SubStore.holds_local g.met.C.SubStore.written_local) c.args.self.now.subscriptions in
    let e1 = entry_view g.E.EntryStore.topic_of g.E.EntryStore.start_of g.E.EntryStore.counts g.E.EntryStore.per_ledger g.E.EntryStore.failed g.E.EntryStore.holds c.prepare_entries.new.store in
    let s1 = sub_view g.C.SubStore.topic_of g.C.SubStore.start_of g.C.SubStore.content g.C.SubStore.failed g.C.SubStore.holds g.C.SubStore.written c.prepare_changes.new.store in
    let stays_e : StaysEntries e0 e1 = record { topic = c.prepare_entries.ensures.topic; start = c.prepare_entries.ensures.start; holds_still = c.prepare_entries.ensures.unchanged.holds_still } in
    let stays_s : StaysSubs s0 s1 = record { topic = c.prepare_changes.ensures.topic; start = c.prepare_changes.ensures.start; holds_still = c.prepare_changes.ensures.holds_still; written = c.prepare_changes.ensures.written } in
    let x1 = settled_still e0 e1 s0 s1 d0 ledger kept stays_e stays_s x in
    let for_e = subst (λ (l : Entries). PreparedFor g.E.EntryStore.is_for c.in_ok-entries.entries l) c.as_slice.ensures.value c.in_ok-entries.ensures.prepared in
    let for_s = subst (λ (l : List Record). PreparedFor (g.C.SubStore.is_for c.prepare_changes.new.store) c.in_ok-changes.changes l) c.as_slice-2.ensures.value c.in_ok-changes.ensures.prepared in
    let held = sl0.content (end_of ledger) s0.start d0.seen kept x.settled.now.subscriptions in
    let formed = formed_there (e0.start.base + total e0.counts) ledger batch kept s0.kept changes (el0.counts d0.seen ledger x.settled.now.entries) held c.requires.fits.formed in
    let starts = subst (λ (said : Start). StartFrom said.base changes) (sym c.prepare_changes.ensures.start) c.requires.fits.starts in
    let d1 = g.S.Shelf.disk c.append.new.shelf in
    let w1 = c.append.ensures.within ledger kept batch changes limit for_e for_s formed starts x1 in
    let all : Ledger = lengthened ledger batch in
    let later = after_all changes kept in
    let e2 = entry_view g.E.EntryStore.topic_of g.E.EntryStore.start_of g.E.EntryStore.counts g.E.EntryStore.per_ledger g.E.EntryStore.failed g.E.EntryStore.holds c.append.new.self.entries in
    let s2 = sub_view g.C.SubStore.topic_of g.C.SubStore.start_of g.C.SubStore.content g.C.SubStore.failed g.C.SubStore.holds g.C.SubStore.written c.append.new.self.subscriptions in
    let x2 = c.in_ok-append.ensures.written ledger kept batch changes for_e for_s formed starts x1 in
    let later_kept = ap (λ (k : Kept). after_all changes k) (c.prepare_changes.ensures.content ∙ held) in
    let el2 = (entry_laws g.E.EntryStore.topic_of g.E.EntryStore.start_of g.E.EntryStore.counts g.E.EntryStore.per_ledger g.E.EntryStore.failed g.E.EntryStore.holds g.E.EntryStore.stands g.E.EntryStore.area g.met.E.EntryStore.holds_works g.met.E.EntryStore.holds_counts g.met.E.EntryStore.holds_stands g.met.E.EntryStore.holds_behind g.met.E.EntryStore.stands_base g.met.E.EntryStore.stands_few g.met.E.EntryStore.area_segments g.met.E.EntryStore.holds_local) c.append.new.self.entries in
    let sl2 = (sub_laws g.C.SubStore.topic_of g.C.SubStore.start_of g.C.SubStore.content g.C.SubStore.failed g.C.SubStore.holds g.C.SubStore.written g.C.SubStore.stands g.C.SubStore.area g.met.C.SubStore.holds_works g.met.C.SubStore.holds_content g.met.C.SubStore.holds_stands g.met.C.SubStore.holds_longer g.met.C.SubStore.stands_longer g.met.C.SubStore.stands_fits g.met.C.SubStore.area_slots g.met.C.SubStore.holds_local g.met.C.SubStore.written_local) c.append.new.self.subscriptions in
    let trim = c.in-Some.point in
    let is_for = g.C.SubStore.is_for c.prepare_changes.new.store in
    let behind = subst (λ o. IsKeptBehind is_for s1.kept o later) (sym c.as_ref.ensures.value) (kept_behind is_for c.in_ok-changes.changes changes s1.kept later later_kept for_s) in
    let low = subst (λ p. IfSome p (λ t. t.start.base ≤ limit)) c.in-Some.is c.in_ok-point.ensures.below in
    let slots = subst (λ p. IfSome p (λ t. g.C.SubStore.trims t.slots s1.start later t.start)) c.in-Some.is (c.in_ok-point.ensures.slots later behind) in
    let trims = subst (λ (said : Start). g.C.SubStore.trims trim.slots said later trim.start) (sym c.append.ensures.said) slots in
    let d2 = g.S.Shelf.disk c.trim.new.shelf in
    let w2 = weaken_within (FilesOf e2.topic) _ (λ i. StandsFor (stand g.E.EntryStore.stands g.C.SubStore.stands e2.topic) (λ l k. IsLeft ledger kept batch changes limit l k) i) d1 d2
    (either_left g.E.EntryStore.stands g.C.SubStore.stands g.E.EntryStore.area g.C.SubStore.area e2 s2 el2 sl2 ledger batch kept changes limit trim.start.base low) (c.trim.ensures.within all later trims x2) in
    let w2' = subst (λ t. Within (FilesOf t) (λ i. StandsFor (stand g.E.EntryStore.stands g.C.SubStore.stands t) (λ l k. IsLeft ledger kept batch changes limit l k) i) d1 d2) c.append.ensures.topic w2 in
    let w = both_left g.E.EntryStore.stands g.C.SubStore.stands g.E.EntryStore.area g.C.SubStore.area e1 s1 ((entry_laws g.E.EntryStore.topic_of g.E.EntryStore.start_of g.E.EntryStore.counts g.E.EntryStore.per_ledger g.E.EntryStore.failed g.E.EntryStore.holds g.E.EntryStore.stands g.E.EntryStore.area g.met.E.EntryStore.holds_works g.met.E.EntryStore.holds_counts g.met.E.EntryStore.holds_stands g.met.E.EntryStore.holds_behind g.met.E.EntryStore.stands_base g.met.E.EntryStore.stands_few g.met.E.EntryStore.area_segments g.met.E.EntryStore.holds_local) c.prepare_entries.new.store) ((sub_laws g.C.SubStore.topic_of g.C.SubStore.start_of g.C.SubStore.content g.C.SubStore.failed g.C.SubStore.holds g.C.SubStore.written g.C.SubStore.stands g.C.SubStore.area g.met.C.SubStore.holds_works g.met.C.SubStore.holds_content g.met.C.SubStore.holds_stands g.met.C.SubStore.holds_longer g.met.C.SubStore.stands_longer g.met.C.SubStore.stands_fits g.met.C.SubStore.area_slots g.met.C.SubStore.holds_local g.met.C.SubStore.written_local) c.prepare_changes.new.store) ledger batch kept changes limit d0 d1 d2 w1 w2' in
    served_within g.E.EntryStore.stands g.C.SubStore.stands g.E.EntryStore.area g.C.SubStore.area e0 s0 el0 sl0 ledger batch kept changes limit d0 d2 x.settled.now.is_served
    (subst (λ t. Within (FilesOf t) (λ i. StandsFor (stand g.E.EntryStore.stands g.C.SubStore.stands t) (λ l k. IsLeft ledger kept batch changes limit l k) i) d0 d2) c.prepare_entries.ensures.topic w)

pub returns-clause-within : goal.returns-clause-within
returns-clause-within g c = λ ledger kept x.
    let d0 = g.S.Shelf.disk c.args.shelf.now in
    let batch = c.args.batch.now.entries.items in
    let changes = c.args.batch.now.changes.items in
    let limit = c.args.batch.now.trim in
    let e0 = entry_view g.E.EntryStore.topic_of g.E.EntryStore.start_of g.E.EntryStore.counts g.E.EntryStore.per_ledger g.E.EntryStore.failed g.E.EntryStore.holds c.args.self.now.entries in
    let s0 = sub_view g.C.SubStore.topic_of g.C.SubStore.start_of g.C.SubStore.content g.C.SubStore.failed g.C.SubStore.holds g.C.SubStore.written c.args.self.now.subscriptions in
    let el0 = (entry_laws g.E.EntryStore.topic_of g.E.EntryStore.start_of g.E.EntryStore.counts g.E.EntryStore.per_ledger g.E.EntryStore.failed g.E.EntryStore.holds g.E.EntryStore.stands g.E.EntryStore.area g.met.E.EntryStore.holds_works g.met.E.EntryStore.holds_counts g.met.E.EntryStore.holds_stands g.met.E.EntryStore.holds_behind g.met.E.EntryStore.stands_base g.met.E.EntryStore.stands_few g.met.E.EntryStore.area_segments g.met.E.EntryStore.holds_local) c.args.self.now.entries in
    let sl0 = (sub_laws g.C.SubStore.topic_of g.C.SubStore.start_of g.C.SubStore.content g.C.SubStore.failed g.C.SubStore.holds g.C.SubStore.written g.C.SubStore.stands g.C.SubStore.area g.met.C.SubStore.holds_works g.met.C.SubStore.holds_content g.met.C.SubStore.holds_stands g.met.C.SubStore.holds_longer g.met.C.SubStore.stands_longer g.met.C.SubStore.stands_fits g.met.C.SubStore.area_slots g.met.C.SubStore.holds_local g.met.C.SubStore.written_local) c.args.self.now.subscriptions in
    let e1 = entry_view g.E.EntryStore.topic_of g.E.EntryStore.start_of g.E.EntryStore.counts g.E.EntryStore.per_ledger g.E.EntryStore.failed g.E.EntryStore.holds c.prepare_entries.new.store in
    let s1 = sub_view g.C.SubStore.topic_of g.C.SubStore.start_of g.C.SubStore.content g.C.SubStore.failed g.C.SubStore.holds g.C.SubStore.written c.prepare_changes.new.store in
    let stays_e : StaysEntries e0 e1 = record { topic = c.prepare_entries.ensures.topic; start = c.prepare_entries.ensures.start; holds_still = c.prepare_entries.ensures.unchanged.holds_still } in
    let stays_s : StaysSubs s0 s1 = record { topic = c.prepare_changes.ensures.topic; start = c.prepare_changes.ensures.start; holds_still = c.prepare_changes.ensures.holds_still; written = c.prepare_changes.ensures.written } in
    let x1 = settled_still e0 e1 s0 s1 d0 ledger kept stays_e stays_s x in
    let for_e = subst (λ (l : Entries). PreparedFor g.E.EntryStore.is_for c.in_ok-entries.entries l) c.as_slice.ensures.value c.in_ok-entries.ensures.prepared in
    let for_s = subst (λ (l : List Record). PreparedFor (g.C.SubStore.is_for c.prepare_changes.new.store) c.in_ok-changes.changes l) c.as_slice-2.ensures.value c.in_ok-changes.ensures.prepared in
    let held = sl0.content (end_of ledger) s0.start d0.seen kept x.settled.now.subscriptions in
    let formed = formed_there (e0.start.base + total e0.counts) ledger batch kept s0.kept changes (el0.counts d0.seen ledger x.settled.now.entries) held c.requires.fits.formed in
    let starts = subst (λ (said : Start). StartFrom said.base changes) (sym c.prepare_changes.ensures.start) c.requires.fits.starts in
    let d1 = g.S.Shelf.disk c.append.new.shelf in
    let w1 = c.append.ensures.within ledger kept batch changes limit for_e for_s formed starts x1 in
    let all : Ledger = lengthened ledger batch in
    let later = after_all changes kept in
    let e2 = entry_view g.E.EntryStore.topic_of g.E.EntryStore.start_of g.E.EntryStore.counts g.E.EntryStore.per_ledger g.E.EntryStore.failed g.E.EntryStore.holds c.append.new.self.entries in
    let s2 = sub_view g.C.SubStore.topic_of g.C.SubStore.start_of g.C.SubStore.content g.C.SubStore.failed g.C.SubStore.holds g.C.SubStore.written c.append.new.self.subscriptions in
    let x2 = c.in_ok-append.ensures.written ledger kept batch changes for_e for_s formed starts x1 in
    let later_kept = ap (λ (k : Kept). after_all changes k) (c.prepare_changes.ensures.content ∙ held) in
    let el2 = (entry_laws g.E.EntryStore.topic_of g.E.EntryStore.start_of g.E.EntryStore.counts g.E.EntryStore.per_ledger g.E.EntryStore.failed g.E.EntryStore.holds g.E.EntryStore.stands g.E.EntryStore.area g.met.E.EntryStore.holds_works g.met.E.EntryStore.holds_counts g.met.E.EntryStore.holds_stands g.met.E.EntryStore.holds_behind g.met.E.EntryStore.stands_base g.met.E.EntryStore.stands_few g.met.E.EntryStore.area_segments g.met.E.EntryStore.holds_local) c.append.new.self.entries in
    let sl2 = (sub_laws g.C.SubStore.topic_of g.C.SubStore.start_of g.C.SubStore.content g.C.SubStore.failed g.C.SubStore.holds g.C.SubStore.written g.C.SubStore.stands g.C.SubStore.area g.met.C.SubStore.holds_works g.met.C.SubStore.holds_content g.met.C.SubStore.holds_stands g.met.C.SubStore.holds_longer g.met.C.SubStore.stands_longer g.met.C.SubStore.stands_fits g.met.C.SubStore.area_slots g.met.C.SubStore.holds_local g.met.C.SubStore.written_local) c.append.new.self.subscriptions in
    let trim = c.in-Some.point in
    let is_for = g.C.SubStore.is_for c.prepare_changes.new.store in
    let behind = subst (λ o. IsKeptBehind is_for s1.kept o later) (sym c.as_ref.ensures.value) (kept_behind is_for c.in_ok-changes.changes changes s1.kept later later_kept for_s) in
    let low = subst (λ p. IfSome p (λ t. t.start.base ≤ limit)) c.in-Some.is c.in_ok-point.ensures.below in
    let slots = subst (λ p. IfSome p (λ t. g.C.SubStore.trims t.slots s1.start later t.start)) c.in-Some.is (c.in_ok-point.ensures.slots later behind) in
    let trims = subst (λ (said : Start). g.C.SubStore.trims trim.slots said later trim.start) (sym c.append.ensures.said) slots in
    let d2 = g.S.Shelf.disk c.trim.new.shelf in
    let w2 = weaken_within (FilesOf e2.topic) _ (λ i. StandsFor (stand g.E.EntryStore.stands g.C.SubStore.stands e2.topic) (λ l k. IsLeft ledger kept batch changes limit l k) i) d1 d2
    (either_left g.E.EntryStore.stands g.C.SubStore.stands g.E.EntryStore.area g.C.SubStore.area e2 s2 el2 sl2 ledger batch kept changes limit trim.start.base low) (c.trim.ensures.within all later trims x2) in
    let w2' = subst (λ t. Within (FilesOf t) (λ i. StandsFor (stand g.E.EntryStore.stands g.C.SubStore.stands t) (λ l k. IsLeft ledger kept batch changes limit l k) i) d1 d2) c.append.ensures.topic w2 in
    let w = both_left g.E.EntryStore.stands g.C.SubStore.stands g.E.EntryStore.area g.C.SubStore.area e1 s1 ((entry_laws g.E.EntryStore.topic_of g.E.EntryStore.start_of g.E.EntryStore.counts g.E.EntryStore.per_ledger g.E.EntryStore.failed g.E.EntryStore.holds g.E.EntryStore.stands g.E.EntryStore.area g.met.E.EntryStore.holds_works g.met.E.EntryStore.holds_counts g.met.E.EntryStore.holds_stands g.met.E.EntryStore.holds_behind g.met.E.EntryStore.stands_base g.met.E.EntryStore.stands_few g.met.E.EntryStore.area_segments g.met.E.EntryStore.holds_local) c.prepare_entries.new.store) ((sub_laws g.C.SubStore.topic_of g.C.SubStore.start_of g.C.SubStore.content g.C.SubStore.failed g.C.SubStore.holds g.C.SubStore.written g.C.SubStore.stands g.C.SubStore.area g.met.C.SubStore.holds_works g.met.C.SubStore.holds_content g.met.C.SubStore.holds_stands g.met.C.SubStore.holds_longer g.met.C.SubStore.stands_longer g.met.C.SubStore.stands_fits g.met.C.SubStore.area_slots g.met.C.SubStore.holds_local g.met.C.SubStore.written_local) c.prepare_changes.new.store) ledger batch kept changes limit d0 d1 d2 w1 w2' in
    served_within g.E.EntryStore.stands g.C.SubStore.stands g.E.EntryStore.area g.C.SubStore.area e0 s0 el0 sl0 ledger batch kept changes limit d0 d2 x.settled.now.is_served
    (subst (λ t. Within (FilesOf t) (λ i. StandsFor (stand g.E.EntryStore.stands g.C.SubStore.stands t) (λ l k. IsLeft ledger kept batch changes limit l k) i) d0 d2) c.prepare_entries.ensures.topic w)

pub returns-clause-written : goal.returns-clause-written
returns-clause-written g c = λ ledger kept x.
    let d0 = g.S.Shelf.disk c.args.shelf.now in
    let batch = c.args.batch.now.entries.items in
    let changes = c.args.batch.now.changes.items in
    let limit = c.args.batch.now.trim in
    let e0 = entry_view g.E.EntryStore.topic_of g.E.EntryStore.start_of g.E.EntryStore.counts g.E.EntryStore.per_ledger g.E.EntryStore.failed g.E.EntryStore.holds c.args.self.now.entries in
    let s0 = sub_view g.C.SubStore.topic_of g.C.SubStore.start_of g.C.SubStore.content g.C.SubStore.failed g.C.SubStore.holds g.C.SubStore.written c.args.self.now.subscriptions in
    let el0 = (entry_laws g.E.EntryStore.topic_of g.E.EntryStore.start_of g.E.EntryStore.counts g.E.EntryStore.per_ledger g.E.EntryStore.failed g.E.EntryStore.holds g.E.EntryStore.stands g.E.EntryStore.area g.met.E.EntryStore.holds_works g.met.E.EntryStore.holds_counts g.met.E.EntryStore.holds_stands g.met.E.EntryStore.holds_behind g.met.E.EntryStore.stands_base g.met.E.EntryStore.stands_few g.met.E.EntryStore.area_segments g.met.E.EntryStore.holds_local) c.args.self.now.entries in
    let sl0 = (sub_laws g.C.SubStore.topic_of g.C.SubStore.start_of g.C.SubStore.content g.C.SubStore.failed g.C.SubStore.holds g.C.SubStore.written g.C.SubStore.stands g.C.SubStore.area g.met.C.SubStore.holds_works g.met.C.SubStore.holds_content g.met.C.SubStore.holds_stands g.met.C.SubStore.holds_longer g.met.C.SubStore.stands_longer g.met.C.SubStore.stands_fits g.met.C.SubStore.area_slots g.met.C.SubStore.holds_local g.met.C.SubStore.written_local) c.args.self.now.subscriptions in
    let e1 = entry_view g.E.EntryStore.topic_of g.E.EntryStore.start_of g.E.EntryStore.counts g.E.EntryStore.per_ledger g.E.EntryStore.failed g.E.EntryStore.holds c.prepare_entries.new.store in
    let s1 = sub_view g.C.SubStore.topic_of g.C.SubStore.start_of g.C.SubStore.content g.C.SubStore.failed g.C.SubStore.holds g.C.SubStore.written c.prepare_changes.new.store in
    let stays_e : StaysEntries e0 e1 = record { topic = c.prepare_entries.ensures.topic; start = c.prepare_entries.ensures.start; holds_still = c.prepare_entries.ensures.unchanged.holds_still } in
    let stays_s : StaysSubs s0 s1 = record { topic = c.prepare_changes.ensures.topic; start = c.prepare_changes.ensures.start; holds_still = c.prepare_changes.ensures.holds_still; written = c.prepare_changes.ensures.written } in
    let x1 = settled_still e0 e1 s0 s1 d0 ledger kept stays_e stays_s x in
    let for_e = subst (λ (l : Entries). PreparedFor g.E.EntryStore.is_for c.in_ok-entries.entries l) c.as_slice.ensures.value c.in_ok-entries.ensures.prepared in
    let for_s = subst (λ (l : List Record). PreparedFor (g.C.SubStore.is_for c.prepare_changes.new.store) c.in_ok-changes.changes l) c.as_slice-2.ensures.value c.in_ok-changes.ensures.prepared in
    let held = sl0.content (end_of ledger) s0.start d0.seen kept x.settled.now.subscriptions in
    let formed = formed_there (e0.start.base + total e0.counts) ledger batch kept s0.kept changes (el0.counts d0.seen ledger x.settled.now.entries) held c.requires.fits.formed in
    let starts = subst (λ (said : Start). StartFrom said.base changes) (sym c.prepare_changes.ensures.start) c.requires.fits.starts in
    let d1 = g.S.Shelf.disk c.append.new.shelf in
    let w1 = c.append.ensures.within ledger kept batch changes limit for_e for_s formed starts x1 in
    let all : Ledger = lengthened ledger batch in
    let later = after_all changes kept in
    let e2 = entry_view g.E.EntryStore.topic_of g.E.EntryStore.start_of g.E.EntryStore.counts g.E.EntryStore.per_ledger g.E.EntryStore.failed g.E.EntryStore.holds c.append.new.self.entries in
    let s2 = sub_view g.C.SubStore.topic_of g.C.SubStore.start_of g.C.SubStore.content g.C.SubStore.failed g.C.SubStore.holds g.C.SubStore.written c.append.new.self.subscriptions in
    let x2 = c.in_ok-append.ensures.written ledger kept batch changes for_e for_s formed starts x1 in
    let later_kept = ap (λ (k : Kept). after_all changes k) (c.prepare_changes.ensures.content ∙ held) in
    let el2 = (entry_laws g.E.EntryStore.topic_of g.E.EntryStore.start_of g.E.EntryStore.counts g.E.EntryStore.per_ledger g.E.EntryStore.failed g.E.EntryStore.holds g.E.EntryStore.stands g.E.EntryStore.area g.met.E.EntryStore.holds_works g.met.E.EntryStore.holds_counts g.met.E.EntryStore.holds_stands g.met.E.EntryStore.holds_behind g.met.E.EntryStore.stands_base g.met.E.EntryStore.stands_few g.met.E.EntryStore.area_segments g.met.E.EntryStore.holds_local) c.append.new.self.entries in
    let sl2 = (sub_laws g.C.SubStore.topic_of g.C.SubStore.start_of g.C.SubStore.content g.C.SubStore.failed g.C.SubStore.holds g.C.SubStore.written g.C.SubStore.stands g.C.SubStore.area g.met.C.SubStore.holds_works g.met.C.SubStore.holds_content g.met.C.SubStore.holds_stands g.met.C.SubStore.holds_longer g.met.C.SubStore.stands_longer g.met.C.SubStore.stands_fits g.met.C.SubStore.area_slots g.met.C.SubStore.holds_local g.met.C.SubStore.written_local) c.append.new.self.subscriptions in
    let trim = c.in-Some.point in
    let is_for = g.C.SubStore.is_for c.prepare_changes.new.store in
    let behind = subst (λ o. IsKeptBehind is_for s1.kept o later) (sym c.as_ref.ensures.value) (kept_behind is_for c.in_ok-changes.changes changes s1.kept later later_kept for_s) in
    let low = subst (λ p. IfSome p (λ t. t.start.base ≤ limit)) c.in-Some.is c.in_ok-point.ensures.below in
    let slots = subst (λ p. IfSome p (λ t. g.C.SubStore.trims t.slots s1.start later t.start)) c.in-Some.is (c.in_ok-point.ensures.slots later behind) in
    let trims = subst (λ (said : Start). g.C.SubStore.trims trim.slots said later trim.start) (sym c.append.ensures.said) slots in
    let d2 = g.S.Shelf.disk c.trim.new.shelf in
    let e3 = entry_view g.E.EntryStore.topic_of g.E.EntryStore.start_of g.E.EntryStore.counts g.E.EntryStore.per_ledger g.E.EntryStore.failed g.E.EntryStore.holds c.trim.new.self.entries in
    let s3 = sub_view g.C.SubStore.topic_of g.C.SubStore.start_of g.C.SubStore.content g.C.SubStore.failed g.C.SubStore.holds g.C.SubStore.written c.trim.new.self.subscriptions in
    let el3 = (entry_laws g.E.EntryStore.topic_of g.E.EntryStore.start_of g.E.EntryStore.counts g.E.EntryStore.per_ledger g.E.EntryStore.failed g.E.EntryStore.holds g.E.EntryStore.stands g.E.EntryStore.area g.met.E.EntryStore.holds_works g.met.E.EntryStore.holds_counts g.met.E.EntryStore.holds_stands g.met.E.EntryStore.holds_behind g.met.E.EntryStore.stands_base g.met.E.EntryStore.stands_few g.met.E.EntryStore.area_segments g.met.E.EntryStore.holds_local) c.trim.new.self.entries in
    let sl3 = (sub_laws g.C.SubStore.topic_of g.C.SubStore.start_of g.C.SubStore.content g.C.SubStore.failed g.C.SubStore.holds g.C.SubStore.written g.C.SubStore.stands g.C.SubStore.area g.met.C.SubStore.holds_works g.met.C.SubStore.holds_content g.met.C.SubStore.holds_stands g.met.C.SubStore.holds_longer g.met.C.SubStore.stands_longer g.met.C.SubStore.stands_fits g.met.C.SubStore.area_slots g.met.C.SubStore.holds_local g.met.C.SubStore.written_local) c.trim.new.self.subscriptions in
    let same = ap (λ (s : Start). s.base) c.start-2.ensures ∙ c.in_ok-trim.ensures.said later trims in
    let x3 = c.in_ok-trim.ensures.trimmed all later trims x2 in
    some_settled g.E.EntryStore.stands g.C.SubStore.stands g.E.EntryStore.area g.C.SubStore.area e3 s3 el3 sl3 d2 all later c.start-2.result.base trim.start.base same x3

pub returns-clause-trimmed : goal.returns-clause-trimmed
returns-clause-trimmed g c = λ ledger kept x.
    let d0 = g.S.Shelf.disk c.args.shelf.now in
    let batch = c.args.batch.now.entries.items in
    let changes = c.args.batch.now.changes.items in
    let limit = c.args.batch.now.trim in
    let e0 = entry_view g.E.EntryStore.topic_of g.E.EntryStore.start_of g.E.EntryStore.counts g.E.EntryStore.per_ledger g.E.EntryStore.failed g.E.EntryStore.holds c.args.self.now.entries in
    let s0 = sub_view g.C.SubStore.topic_of g.C.SubStore.start_of g.C.SubStore.content g.C.SubStore.failed g.C.SubStore.holds g.C.SubStore.written c.args.self.now.subscriptions in
    let el0 = (entry_laws g.E.EntryStore.topic_of g.E.EntryStore.start_of g.E.EntryStore.counts g.E.EntryStore.per_ledger g.E.EntryStore.failed g.E.EntryStore.holds g.E.EntryStore.stands g.E.EntryStore.area g.met.E.EntryStore.holds_works g.met.E.EntryStore.holds_counts g.met.E.EntryStore.holds_stands g.met.E.EntryStore.holds_behind g.met.E.EntryStore.stands_base g.met.E.EntryStore.stands_few g.met.E.EntryStore.area_segments g.met.E.EntryStore.holds_local) c.args.self.now.entries in
    let sl0 = (sub_laws g.C.SubStore.topic_of g.C.SubStore.start_of g.C.SubStore.content g.C.SubStore.failed g.C.SubStore.holds g.C.SubStore.written g.C.SubStore.stands g.C.SubStore.area g.met.C.SubStore.holds_works g.met.C.SubStore.holds_content g.met.C.SubStore.holds_stands g.met.C.SubStore.holds_longer g.met.C.SubStore.stands_longer g.met.C.SubStore.stands_fits g.met.C.SubStore.area_slots g.met.C.SubStore.holds_local g.met.C.SubStore.written_local) c.args.self.now.subscriptions in
    let e1 = entry_view g.E.EntryStore.topic_of g.E.EntryStore.start_of g.E.EntryStore.counts g.E.EntryStore.per_ledger g.E.EntryStore.failed g.E.EntryStore.holds c.prepare_entries.new.store in
    let s1 = sub_view g.C.SubStore.topic_of g.C.SubStore.start_of g.C.SubStore.content g.C.SubStore.failed g.C.SubStore.holds g.C.SubStore.written c.prepare_changes.new.store in
    let stays_e : StaysEntries e0 e1 = record { topic = c.prepare_entries.ensures.topic; start = c.prepare_entries.ensures.start; holds_still = c.prepare_entries.ensures.unchanged.holds_still } in
    let stays_s : StaysSubs s0 s1 = record { topic = c.prepare_changes.ensures.topic; start = c.prepare_changes.ensures.start; holds_still = c.prepare_changes.ensures.holds_still; written = c.prepare_changes.ensures.written } in
    let x1 = settled_still e0 e1 s0 s1 d0 ledger kept stays_e stays_s x in
    let for_e = subst (λ (l : Entries). PreparedFor g.E.EntryStore.is_for c.in_ok-entries.entries l) c.as_slice.ensures.value c.in_ok-entries.ensures.prepared in
    let for_s = subst (λ (l : List Record). PreparedFor (g.C.SubStore.is_for c.prepare_changes.new.store) c.in_ok-changes.changes l) c.as_slice-2.ensures.value c.in_ok-changes.ensures.prepared in
    let held = sl0.content (end_of ledger) s0.start d0.seen kept x.settled.now.subscriptions in
    let formed = formed_there (e0.start.base + total e0.counts) ledger batch kept s0.kept changes (el0.counts d0.seen ledger x.settled.now.entries) held c.requires.fits.formed in
    let starts = subst (λ (said : Start). StartFrom said.base changes) (sym c.prepare_changes.ensures.start) c.requires.fits.starts in
    let d1 = g.S.Shelf.disk c.append.new.shelf in
    let w1 = c.append.ensures.within ledger kept batch changes limit for_e for_s formed starts x1 in
    let all : Ledger = lengthened ledger batch in
    let later = after_all changes kept in
    let e2 = entry_view g.E.EntryStore.topic_of g.E.EntryStore.start_of g.E.EntryStore.counts g.E.EntryStore.per_ledger g.E.EntryStore.failed g.E.EntryStore.holds c.append.new.self.entries in
    let s2 = sub_view g.C.SubStore.topic_of g.C.SubStore.start_of g.C.SubStore.content g.C.SubStore.failed g.C.SubStore.holds g.C.SubStore.written c.append.new.self.subscriptions in
    let x2 = c.in_ok-append.ensures.written ledger kept batch changes for_e for_s formed starts x1 in
    let later_kept = ap (λ (k : Kept). after_all changes k) (c.prepare_changes.ensures.content ∙ held) in
    let el2 = (entry_laws g.E.EntryStore.topic_of g.E.EntryStore.start_of g.E.EntryStore.counts g.E.EntryStore.per_ledger g.E.EntryStore.failed g.E.EntryStore.holds g.E.EntryStore.stands g.E.EntryStore.area g.met.E.EntryStore.holds_works g.met.E.EntryStore.holds_counts g.met.E.EntryStore.holds_stands g.met.E.EntryStore.holds_behind g.met.E.EntryStore.stands_base g.met.E.EntryStore.stands_few g.met.E.EntryStore.area_segments g.met.E.EntryStore.holds_local) c.append.new.self.entries in
    let sl2 = (sub_laws g.C.SubStore.topic_of g.C.SubStore.start_of g.C.SubStore.content g.C.SubStore.failed g.C.SubStore.holds g.C.SubStore.written g.C.SubStore.stands g.C.SubStore.area g.met.C.SubStore.holds_works g.met.C.SubStore.holds_content g.met.C.SubStore.holds_stands g.met.C.SubStore.holds_longer g.met.C.SubStore.stands_longer g.met.C.SubStore.stands_fits g.met.C.SubStore.area_slots g.met.C.SubStore.holds_local g.met.C.SubStore.written_local) c.append.new.self.subscriptions in
    let trim = c.in-Some.point in
    let is_for = g.C.SubStore.is_for c.prepare_changes.new.store in
    let behind = subst (λ o. IsKeptBehind is_for s1.kept o later) (sym c.as_ref.ensures.value) (kept_behind is_for c.in_ok-changes.changes changes s1.kept later later_kept for_s) in
    let low = subst (λ p. IfSome p (λ t. t.start.base ≤ limit)) c.in-Some.is c.in_ok-point.ensures.below in
    let slots = subst (λ p. IfSome p (λ t. g.C.SubStore.trims t.slots s1.start later t.start)) c.in-Some.is (c.in_ok-point.ensures.slots later behind) in
    let trims = subst (λ (said : Start). g.C.SubStore.trims trim.slots said later trim.start) (sym c.append.ensures.said) slots in
    let d2 = g.S.Shelf.disk c.trim.new.shelf in
    let e3 = entry_view g.E.EntryStore.topic_of g.E.EntryStore.start_of g.E.EntryStore.counts g.E.EntryStore.per_ledger g.E.EntryStore.failed g.E.EntryStore.holds c.trim.new.self.entries in
    let s3 = sub_view g.C.SubStore.topic_of g.C.SubStore.start_of g.C.SubStore.content g.C.SubStore.failed g.C.SubStore.holds g.C.SubStore.written c.trim.new.self.subscriptions in
    let el3 = (entry_laws g.E.EntryStore.topic_of g.E.EntryStore.start_of g.E.EntryStore.counts g.E.EntryStore.per_ledger g.E.EntryStore.failed g.E.EntryStore.holds g.E.EntryStore.stands g.E.EntryStore.area g.met.E.EntryStore.holds_works g.met.E.EntryStore.holds_counts g.met.E.EntryStore.holds_stands g.met.E.EntryStore.holds_behind g.met.E.EntryStore.stands_base g.met.E.EntryStore.stands_few g.met.E.EntryStore.area_segments g.met.E.EntryStore.holds_local) c.trim.new.self.entries in
    let sl3 = (sub_laws g.C.SubStore.topic_of g.C.SubStore.start_of g.C.SubStore.content g.C.SubStore.failed g.C.SubStore.holds g.C.SubStore.written g.C.SubStore.stands g.C.SubStore.area g.met.C.SubStore.holds_works g.met.C.SubStore.holds_content g.met.C.SubStore.holds_stands g.met.C.SubStore.holds_longer g.met.C.SubStore.stands_longer g.met.C.SubStore.stands_fits g.met.C.SubStore.area_slots g.met.C.SubStore.holds_local g.met.C.SubStore.written_local) c.trim.new.self.subscriptions in
    let same = ap (λ (s : Start). s.base) c.start-2.ensures ∙ c.in_ok-trim.ensures.said later trims in
    let x3 = c.in_ok-trim.ensures.trimmed all later trims x2 in
    some_trimmed g.E.EntryStore.stands g.C.SubStore.stands g.E.EntryStore.area g.C.SubStore.area e3 s3 el3 sl3 d2 all later limit c.start-2.result.base trim.start.base same low x3

pub returns-in_default-clause-remembers : goal.returns-in_default-clause-remembers
returns-in_default-clause-remembers g c =
    let d0 = g.S.Shelf.disk c.args.shelf.now in
    let batch = c.args.batch.now.entries.items in
    let changes = c.args.batch.now.changes.items in
    let limit = c.args.batch.now.trim in
    let per = g.E.EntryStore.per_ledger c.args.self.now.entries in
    let for_e = subst (λ (l : Entries). PreparedFor g.E.EntryStore.is_for c.in_ok-entries.entries l) c.as_slice.ensures.value c.in_ok-entries.ensures.prepared in
    let some = subst (λ (l : Entries). IfSome c.in_ok-entries.entries (λ p. 0 < length l)) c.as_slice.ensures.value c.in_ok-entries.ensures.some in
    let for_s = subst (λ (l : List Record). PreparedFor (g.C.SubStore.is_for c.prepare_changes.new.store) c.in_ok-changes.changes l) c.as_slice-2.ensures.value c.in_ok-changes.ensures.prepared in
    let start_is = ap (λ (s : Start). s.base) (c.append.ensures.start ∙ c.prepare_entries.ensures.start) in
    let total_is = ap (λ (l : List ℕ). total l) c.prepare_entries.ensures.counts in
    let counts = c.in_ok-append.ensures.counts batch for_e some ∙ (λ i. counts_with (c.prepare_entries.ensures.per_ledger i) (length batch) (c.prepare_entries.ensures.counts i)) in
    let kept = c.in_ok-append.ensures.content changes for_s ∙ ap (λ (k : Kept). after_all changes k) c.prepare_changes.ensures.content in
    record {
      begins = sym (ap (λ (s : Start). s.base) c.start.ensures);
      below = omega (arith, ap (λ (s : Start). s.base) (c.start.ensures ∙ c.append.ensures.said ∙ c.prepare_changes.ensures.start));
      count = omega (arith, start_is, total_is, c.in_ok-append.ensures.total batch for_e);
      gone = 0;
      counts = counts;
      per_ledger = c.append.ensures.per_ledger ∙ c.prepare_entries.ensures.per_ledger;
      kept = kept;
      works = (λ works. c.in_ok-append.ensures.works ((λ i. c.prepare_entries.ensures.failed i || c.prepare_changes.ensures.failed i) ∙ works));
    }

pub returns-clause-remembers : goal.returns-clause-remembers
returns-clause-remembers g c =
    let d0 = g.S.Shelf.disk c.args.shelf.now in
    let batch = c.args.batch.now.entries.items in
    let changes = c.args.batch.now.changes.items in
    let limit = c.args.batch.now.trim in
    let per = g.E.EntryStore.per_ledger c.args.self.now.entries in
    let for_e = subst (λ (l : Entries). PreparedFor g.E.EntryStore.is_for c.in_ok-entries.entries l) c.as_slice.ensures.value c.in_ok-entries.ensures.prepared in
    let some = subst (λ (l : Entries). IfSome c.in_ok-entries.entries (λ p. 0 < length l)) c.as_slice.ensures.value c.in_ok-entries.ensures.some in
    let for_s = subst (λ (l : List Record). PreparedFor (g.C.SubStore.is_for c.prepare_changes.new.store) c.in_ok-changes.changes l) c.as_slice-2.ensures.value c.in_ok-changes.ensures.prepared in
    let start_is = ap (λ (s : Start). s.base) (c.append.ensures.start ∙ c.prepare_entries.ensures.start) in
    let total_is = ap (λ (l : List ℕ). total l) c.prepare_entries.ensures.counts in
    let counts = c.in_ok-append.ensures.counts batch for_e some ∙ (λ i. counts_with (c.prepare_entries.ensures.per_ledger i) (length batch) (c.prepare_entries.ensures.counts i)) in
    let kept = c.in_ok-append.ensures.content changes for_s ∙ ap (λ (k : Kept). after_all changes k) c.prepare_changes.ensures.content in
    let trim = c.in-Some.point in
    let later = after_all changes (g.C.SubStore.content c.prepare_changes.new.store) in
    let is_for = g.C.SubStore.is_for c.prepare_changes.new.store in
    let remembered = g.C.SubStore.content c.prepare_changes.new.store in
    let behind = subst (λ o. IsKeptBehind is_for remembered o later) (sym c.as_ref.ensures.value) (kept_behind is_for c.in_ok-changes.changes changes remembered later refl for_s) in
    let low = subst (λ p. IfSome p (λ t. t.start.base ≤ limit)) c.in-Some.is c.in_ok-point.ensures.below in
    let slots = subst (λ p. IfSome p (λ t. g.C.SubStore.trims t.slots (g.C.SubStore.start_of c.prepare_changes.new.store) later t.start)) c.in-Some.is (c.in_ok-point.ensures.slots later behind) in
    let trims = subst (λ (said : Start). g.C.SubStore.trims trim.slots said later trim.start) (sym c.append.ensures.said) slots in
    let gone = trim.start.first - (g.E.EntryStore.start_of c.append.new.self.entries).first in
    record {
      begins = sym (ap (λ (s : Start). s.base) c.start-2.ensures);
      below = omega (arith, ap (λ (s : Start). s.base) c.start-2.ensures, c.in_ok-trim.ensures.said later trims, low);
      count = omega (arith, start_is, total_is, c.in_ok-append.ensures.total batch for_e, c.trim.ensures.end_stays);
      gone = gone;
      counts = c.in_ok-trim.ensures.counts ∙ ap (λ (l : List ℕ). drop gone l) counts;
      per_ledger = c.trim.ensures.per_ledger ∙ c.append.ensures.per_ledger ∙ c.prepare_entries.ensures.per_ledger;
      kept = c.trim.ensures.content ∙ kept;
      works = λ works. c.in_ok-trim.ensures.works (c.in_ok-append.ensures.works ((λ i. c.prepare_entries.ensures.failed i || c.prepare_changes.ensures.failed i) ∙ works));
    }

-- the device failed
pub returns-in_err-check_works-clause-remembers : goal.returns-in_err-check_works-clause-remembers
returns-in_err-check_works-clause-remembers g c =
    let counts = g.E.EntryStore.counts c.args.self.now.entries in
    let p = err_from_is_err_and c.from_residual.result c.from_residual.ensures.1 in
    rw (p.1, p.2) (record {
      failed = c.in_err-check_works.ensures.fails refl;
      count = inl refl;
      counts = known_old (g.E.EntryStore.per_ledger c.args.self.now.entries) (length c.args.batch.now.entries.items) counts counts refl;
      counts_stay = λ was. refl;
      per_ledger = refl;
      kept = inl refl;
    })

pub returns-in_err-append-clause-remembers : goal.returns-in_err-append-clause-remembers
returns-in_err-append-clause-remembers g c =
    let batch = c.args.batch.now.entries.items in
    let e0 = c.args.self.now.entries in
    let e1 = c.prepare_entries.new.store in
    let e2 = c.append.new.self.entries in
    let for_e = subst (λ (l : Entries). PreparedFor g.E.EntryStore.is_for c.in_ok-entries.entries l) c.as_slice.ensures.value c.in_ok-entries.ensures.prepared in
    let some = subst (λ (l : Entries). IfSome c.in_ok-entries.entries (λ p. 0 < length l)) c.as_slice.ensures.value c.in_ok-entries.ensures.some in
    let start_is = ap (λ (s : Start). s.base) (c.append.ensures.start ∙ c.prepare_entries.ensures.start) in
    let total_is = ap (λ (l : List ℕ). total l) c.prepare_entries.ensures.counts in
    let known = c.in_err-append.ensures.known batch for_e some refl in
    let p = err_from_is_err_and c.from_residual-in_err-append.result c.from_residual-in_err-append.ensures.1 in
    rw (p.1, p.2) (record {
      failed = c.in_err-append.ensures.fails refl;
      count = ⊎_elim (λ same. inl (omega (arith, start_is, total_is, same))) (λ more. inr (omega (arith, start_is, total_is, more))) (c.append.ensures.total_either batch for_e);
      counts =
          subst (λ (n : ℕ). AreKnownWhole n (length batch) (g.E.EntryStore.counts e0) (g.E.EntryStore.counts e2)) c.prepare_entries.ensures.per_ledger
          (subst (λ (l : List ℕ). AreKnownWhole (g.E.EntryStore.per_ledger e1) (length batch) l (g.E.EntryStore.counts e2)) c.prepare_entries.ensures.counts known);
      counts_stay = λ was. absurd (true≢false (sym was ∙ c.in_ok-check_works.ensures.works));
      per_ledger = c.append.ensures.per_ledger ∙ c.prepare_entries.ensures.per_ledger;
      kept = inl (c.in_err-append.ensures.remembered refl ∙ c.prepare_changes.ensures.content);
    })

pub returns-in_err-trim-clause-remembers : goal.returns-in_err-trim-clause-remembers
returns-in_err-trim-clause-remembers g c =
    let batch = c.args.batch.now.entries.items in
    let changes = c.args.batch.now.changes.items in
    let e0 = c.args.self.now.entries in
    let for_e = subst (λ (l : Entries). PreparedFor g.E.EntryStore.is_for c.in_ok-entries.entries l) c.as_slice.ensures.value c.in_ok-entries.ensures.prepared in
    let some = subst (λ (l : Entries). IfSome c.in_ok-entries.entries (λ p. 0 < length l)) c.as_slice.ensures.value c.in_ok-entries.ensures.some in
    let for_s = subst (λ (l : List Record). PreparedFor (g.C.SubStore.is_for c.prepare_changes.new.store) c.in_ok-changes.changes l) c.as_slice-2.ensures.value c.in_ok-changes.ensures.prepared in
    let start_is = ap (λ (s : Start). s.base) (c.append.ensures.start ∙ c.prepare_entries.ensures.start) in
    let total_is = ap (λ (l : List ℕ). total l) c.prepare_entries.ensures.counts in
    let counts = c.in_ok-append.ensures.counts batch for_e some ∙ (λ i. counts_with (c.prepare_entries.ensures.per_ledger i) (length batch) (c.prepare_entries.ensures.counts i)) in
    let kept = c.in_ok-append.ensures.content changes for_s ∙ ap (λ (k : Kept). after_all changes k) c.prepare_changes.ensures.content in
    let p = err_from_is_err_and c.from_residual-in_err-trim.result c.from_residual-in_err-trim.ensures.1 in
    rw (p.1, p.2) (record {
      failed = c.in_err-trim.ensures.fails refl;
      count = inr (omega (arith, start_is, total_is, c.in_ok-append.ensures.total batch for_e, c.trim.ensures.end_stays));
      counts = known_written (g.E.EntryStore.per_ledger e0) (length batch) (g.E.EntryStore.counts e0) (g.E.EntryStore.counts c.trim.new.self.entries) (c.in_err-trim.ensures.counts_stay refl ∙ counts);
      counts_stay = λ was. absurd (true≢false (sym was ∙ c.in_ok-check_works.ensures.works));
      per_ledger = c.trim.ensures.per_ledger ∙ c.append.ensures.per_ledger ∙ c.prepare_entries.ensures.per_ledger;
      kept = inr (c.trim.ensures.content ∙ kept);
    })

pub trim-requires-clause-begins : goal.trim-requires-clause-begins
trim-requires-clause-begins g c =
    let for_e = subst (λ (l : Entries). PreparedFor g.E.EntryStore.is_for c.in_ok-entries.entries l) c.as_slice.ensures.value c.in_ok-entries.ensures.prepared in
    let some = subst (λ (l : Entries). IfSome c.in_ok-entries.entries (λ p. 0 < length l)) c.as_slice.ensures.value c.in_ok-entries.ensures.some in
    let e1 = c.prepare_entries.new.store in
    let begins = subst (λ p. IfSome p (λ t. Begins (g.E.EntryStore.start_of e1) (counts_with (g.E.EntryStore.per_ledger e1) c.len.result (g.E.EntryStore.counts e1)) t.start)) c.in-Some.is c.in_ok-point.ensures.begins in
    let many : c.len.result ≡ length c.args.batch.now.entries.items = omega (arith, c.len.ensures, c.args.batch.now.entries.ok.0) in
    let counts = ap (λ (n : ℕ). counts_with (g.E.EntryStore.per_ledger e1) n (g.E.EntryStore.counts e1)) many ∙ sym (c.in_ok-append.ensures.counts c.args.batch.now.entries.items for_e some) in
    subst (λ (start : Start). Begins start (g.E.EntryStore.counts c.append.new.self.entries) c.in-Some.point.start) (sym c.append.ensures.start)
    (subst (λ (l : List ℕ). Begins (g.E.EntryStore.start_of e1) l c.in-Some.point.start) counts begins)

pub trim-requires-clause-generation : goal.trim-requires-clause-generation
trim-requires-clause-generation g c =
    let subscriptions = c.prepare_changes.new.store in
    let changes = c.args.batch.now.changes.items in
    let kept = g.C.SubStore.content subscriptions in
    let is_for = g.C.SubStore.is_for subscriptions in
    let for_s = subst (λ (l : List Record). PreparedFor is_for c.in_ok-changes.changes l) c.as_slice-2.ensures.value c.in_ok-changes.ensures.prepared in
    let behind = subst (λ o. IsKeptBehind is_for kept o (after_all changes kept)) (sym c.as_ref.ensures.value) (kept_behind is_for c.in_ok-changes.changes changes kept (after_all changes kept) refl for_s) in
    let left = g.C.SubStore.replaces_left subscriptions in
    let due : Bool → Bool = λ some. some && is_due_at (g.C.SubStore.counted subscriptions) (g.C.SubStore.can_replace subscriptions) in
    let has = subst (λ p. IfSome p (λ t. HasGeneration (due (is_some c.as_ref.result)) left)) c.in-Some.is (c.in_ok-point.ensures.generation (after_all changes kept) behind) in
    one_left (due (is_some c.in_ok-changes.changes)) left (g.C.SubStore.replaces_left c.append.new.self.subscriptions) (subst (λ some. HasGeneration (due some) left) c.as_ref.ensures.variant has) (c.in_ok-append.ensures.replaces_left changes for_s)
