use Rattle.std.proofs.Common.{◌≡◌, sym, subst, ◌∙◌}
use Rattle.disk.specs.Contents.{Steady}
use Rattle.managed_ledger.specs.Entries.{end_of}
use Rattle.gated_log.specs.declared.start.Start.{Start}
use Rattle.topic_stores.specs.Views.{entry_view, sub_view}
use Rattle.topic_stores.specs.Laws.{entry_laws, sub_laws, still_served}
use Rattle.topic_stores.proofs.Writing.{entries_settled, subs_settled, entries_beside, subs_still}
use Rattle.topic_stores.proofs.Cutting.{there, within_slots, within_cut, cut_settled, both_trimmed}
use Rattle.topic_stores.proofs.stores.TopicStores.trim.Goals as goal

pub returns-in_err-trim-clause-within : goal.returns-in_err-trim-clause-within
returns-in_err-trim-clause-within g c = λ ledger kept trims x.
    let laws_e = entry_laws g.E.EntryStore.topic_of g.E.EntryStore.start_of g.E.EntryStore.counts g.E.EntryStore.per_ledger g.E.EntryStore.failed g.E.EntryStore.holds g.E.EntryStore.stands g.E.EntryStore.area g.met.E.EntryStore.holds_works g.met.E.EntryStore.holds_counts g.met.E.EntryStore.holds_stands g.met.E.EntryStore.holds_behind g.met.E.EntryStore.stands_base g.met.E.EntryStore.stands_few g.met.E.EntryStore.area_segments g.met.E.EntryStore.holds_local in
    let laws_s = sub_laws g.C.SubStore.topic_of g.C.SubStore.start_of g.C.SubStore.content g.C.SubStore.failed g.C.SubStore.holds g.C.SubStore.written g.C.SubStore.stands g.C.SubStore.area g.met.C.SubStore.holds_works g.met.C.SubStore.holds_content g.met.C.SubStore.holds_stands g.met.C.SubStore.holds_longer g.met.C.SubStore.stands_longer g.met.C.SubStore.stands_fits g.met.C.SubStore.area_slots g.met.C.SubStore.holds_local g.met.C.SubStore.written_local in
    let e0 = entry_view g.E.EntryStore.topic_of g.E.EntryStore.start_of g.E.EntryStore.counts g.E.EntryStore.per_ledger g.E.EntryStore.failed g.E.EntryStore.holds c.args.self.now.entries in
    let s0 = sub_view g.C.SubStore.topic_of g.C.SubStore.start_of g.C.SubStore.content g.C.SubStore.failed g.C.SubStore.holds g.C.SubStore.written c.args.self.now.subscriptions in
    let el0 = laws_e c.args.self.now.entries in
    let sl0 = laws_s c.args.self.now.subscriptions in
    let d0 = g.S.Shelf.disk c.args.shelf.now in
    let d1 = g.S.Shelf.disk c.trim.new.shelf in
    let start = c.args.trim.start in
    let low = there g.E.EntryStore.stands g.C.SubStore.stands g.E.EntryStore.area g.C.SubStore.area e0 s0 el0 sl0 ledger kept start c.requires.begins d0.seen x.settled.now.entries in
    let raw = (c.trim.ensures.trims (end_of ledger) s0.start start kept trims low (subs_settled e0 s0 d0 ledger kept x)).within in
    let w1 = within_slots g.E.EntryStore.stands g.C.SubStore.stands g.E.EntryStore.area g.C.SubStore.area e0 s0 el0 sl0 ledger kept start c.requires.begins d0 d1 x raw in
    w1

pub returns-in_err-trim-2-clause-within : goal.returns-in_err-trim-2-clause-within
returns-in_err-trim-2-clause-within g c = λ ledger kept trims x.
    let laws_e = entry_laws g.E.EntryStore.topic_of g.E.EntryStore.start_of g.E.EntryStore.counts g.E.EntryStore.per_ledger g.E.EntryStore.failed g.E.EntryStore.holds g.E.EntryStore.stands g.E.EntryStore.area g.met.E.EntryStore.holds_works g.met.E.EntryStore.holds_counts g.met.E.EntryStore.holds_stands g.met.E.EntryStore.holds_behind g.met.E.EntryStore.stands_base g.met.E.EntryStore.stands_few g.met.E.EntryStore.area_segments g.met.E.EntryStore.holds_local in
    let laws_s = sub_laws g.C.SubStore.topic_of g.C.SubStore.start_of g.C.SubStore.content g.C.SubStore.failed g.C.SubStore.holds g.C.SubStore.written g.C.SubStore.stands g.C.SubStore.area g.met.C.SubStore.holds_works g.met.C.SubStore.holds_content g.met.C.SubStore.holds_stands g.met.C.SubStore.holds_longer g.met.C.SubStore.stands_longer g.met.C.SubStore.stands_fits g.met.C.SubStore.area_slots g.met.C.SubStore.holds_local g.met.C.SubStore.written_local in
    let e0 = entry_view g.E.EntryStore.topic_of g.E.EntryStore.start_of g.E.EntryStore.counts g.E.EntryStore.per_ledger g.E.EntryStore.failed g.E.EntryStore.holds c.args.self.now.entries in
    let s0 = sub_view g.C.SubStore.topic_of g.C.SubStore.start_of g.C.SubStore.content g.C.SubStore.failed g.C.SubStore.holds g.C.SubStore.written c.args.self.now.subscriptions in
    let el0 = laws_e c.args.self.now.entries in
    let sl0 = laws_s c.args.self.now.subscriptions in
    let d0 = g.S.Shelf.disk c.args.shelf.now in
    let d1 = g.S.Shelf.disk c.trim.new.shelf in
    let start = c.args.trim.start in
    let low = there g.E.EntryStore.stands g.C.SubStore.stands g.E.EntryStore.area g.C.SubStore.area e0 s0 el0 sl0 ledger kept start c.requires.begins d0.seen x.settled.now.entries in
    let raw = (c.trim.ensures.trims (end_of ledger) s0.start start kept trims low (subs_settled e0 s0 d0 ledger kept x)).within in
    let w1 = within_slots g.E.EntryStore.stands g.C.SubStore.stands g.E.EntryStore.area g.C.SubStore.area e0 s0 el0 sl0 ledger kept start c.requires.begins d0 d1 x raw in
    let d2 = g.S.Shelf.disk c.trim-2.new.shelf in
    let s1 = sub_view g.C.SubStore.topic_of g.C.SubStore.start_of g.C.SubStore.content g.C.SubStore.failed g.C.SubStore.holds g.C.SubStore.written c.trim.new.self in
    let sl1 = laws_s c.trim.new.self in
    let one : s1.topic ≡ e0.topic = c.trim.ensures.topic ∙ x.settled.now.one_topic in
    let said : s1.start ≡ start = c.in_ok-trim.ensures.start s0.start start kept trims in
    let y1 = (c.in_ok-trim.ensures.trims (end_of ledger) s0.start start kept trims low (subs_settled e0 s0 d0 ledger kept x)).added in
    let y1' = subst (λ (begin : Start). Steady (s1.holds (end_of ledger) begin) s1.written d1 kept) (sym said) y1 in
    let x1 = entries_beside g.E.EntryStore.stands g.C.SubStore.stands g.E.EntryStore.area g.C.SubStore.area e0 s0 el0 sl0 _ d0 d1 ledger x.settled.now.one_topic y1.settled.honest (entries_settled e0 s0 d0 ledger kept x) raw in
    let raw2 = c.trim-2.ensures.within ledger x1 in
    let w2 = within_cut g.E.EntryStore.stands g.C.SubStore.stands g.E.EntryStore.area g.C.SubStore.area e0 s0 el0 sl0 ledger kept start s1 sl1 d1 d2 one said low y1' raw2 in
    both_trimmed g.E.EntryStore.stands g.C.SubStore.stands g.E.EntryStore.area g.C.SubStore.area e0 s0 el0 sl0 ledger kept start d0 d1 d2 w1 w2

pub returns-clause-within : goal.returns-clause-within
returns-clause-within g c = λ ledger kept trims x.
    let laws_e = entry_laws g.E.EntryStore.topic_of g.E.EntryStore.start_of g.E.EntryStore.counts g.E.EntryStore.per_ledger g.E.EntryStore.failed g.E.EntryStore.holds g.E.EntryStore.stands g.E.EntryStore.area g.met.E.EntryStore.holds_works g.met.E.EntryStore.holds_counts g.met.E.EntryStore.holds_stands g.met.E.EntryStore.holds_behind g.met.E.EntryStore.stands_base g.met.E.EntryStore.stands_few g.met.E.EntryStore.area_segments g.met.E.EntryStore.holds_local in
    let laws_s = sub_laws g.C.SubStore.topic_of g.C.SubStore.start_of g.C.SubStore.content g.C.SubStore.failed g.C.SubStore.holds g.C.SubStore.written g.C.SubStore.stands g.C.SubStore.area g.met.C.SubStore.holds_works g.met.C.SubStore.holds_content g.met.C.SubStore.holds_stands g.met.C.SubStore.holds_longer g.met.C.SubStore.stands_longer g.met.C.SubStore.stands_fits g.met.C.SubStore.area_slots g.met.C.SubStore.holds_local g.met.C.SubStore.written_local in
    let e0 = entry_view g.E.EntryStore.topic_of g.E.EntryStore.start_of g.E.EntryStore.counts g.E.EntryStore.per_ledger g.E.EntryStore.failed g.E.EntryStore.holds c.args.self.now.entries in
    let s0 = sub_view g.C.SubStore.topic_of g.C.SubStore.start_of g.C.SubStore.content g.C.SubStore.failed g.C.SubStore.holds g.C.SubStore.written c.args.self.now.subscriptions in
    let el0 = laws_e c.args.self.now.entries in
    let sl0 = laws_s c.args.self.now.subscriptions in
    let d0 = g.S.Shelf.disk c.args.shelf.now in
    let d1 = g.S.Shelf.disk c.trim.new.shelf in
    let start = c.args.trim.start in
    let low = there g.E.EntryStore.stands g.C.SubStore.stands g.E.EntryStore.area g.C.SubStore.area e0 s0 el0 sl0 ledger kept start c.requires.begins d0.seen x.settled.now.entries in
    let raw = (c.trim.ensures.trims (end_of ledger) s0.start start kept trims low (subs_settled e0 s0 d0 ledger kept x)).within in
    let w1 = within_slots g.E.EntryStore.stands g.C.SubStore.stands g.E.EntryStore.area g.C.SubStore.area e0 s0 el0 sl0 ledger kept start c.requires.begins d0 d1 x raw in
    let d2 = g.S.Shelf.disk c.trim-2.new.shelf in
    let s1 = sub_view g.C.SubStore.topic_of g.C.SubStore.start_of g.C.SubStore.content g.C.SubStore.failed g.C.SubStore.holds g.C.SubStore.written c.trim.new.self in
    let sl1 = laws_s c.trim.new.self in
    let one : s1.topic ≡ e0.topic = c.trim.ensures.topic ∙ x.settled.now.one_topic in
    let said : s1.start ≡ start = c.in_ok-trim.ensures.start s0.start start kept trims in
    let y1 = (c.in_ok-trim.ensures.trims (end_of ledger) s0.start start kept trims low (subs_settled e0 s0 d0 ledger kept x)).added in
    let y1' = subst (λ (begin : Start). Steady (s1.holds (end_of ledger) begin) s1.written d1 kept) (sym said) y1 in
    let x1 = entries_beside g.E.EntryStore.stands g.C.SubStore.stands g.E.EntryStore.area g.C.SubStore.area e0 s0 el0 sl0 _ d0 d1 ledger x.settled.now.one_topic y1.settled.honest (entries_settled e0 s0 d0 ledger kept x) raw in
    let raw2 = c.trim-2.ensures.within ledger x1 in
    let w2 = within_cut g.E.EntryStore.stands g.C.SubStore.stands g.E.EntryStore.area g.C.SubStore.area e0 s0 el0 sl0 ledger kept start s1 sl1 d1 d2 one said low y1' raw2 in
    both_trimmed g.E.EntryStore.stands g.C.SubStore.stands g.E.EntryStore.area g.C.SubStore.area e0 s0 el0 sl0 ledger kept start d0 d1 d2 w1 w2

pub returns-clause-trimmed : goal.returns-clause-trimmed
returns-clause-trimmed g c = λ ledger kept trims x.
    let laws_e = entry_laws g.E.EntryStore.topic_of g.E.EntryStore.start_of g.E.EntryStore.counts g.E.EntryStore.per_ledger g.E.EntryStore.failed g.E.EntryStore.holds g.E.EntryStore.stands g.E.EntryStore.area g.met.E.EntryStore.holds_works g.met.E.EntryStore.holds_counts g.met.E.EntryStore.holds_stands g.met.E.EntryStore.holds_behind g.met.E.EntryStore.stands_base g.met.E.EntryStore.stands_few g.met.E.EntryStore.area_segments g.met.E.EntryStore.holds_local in
    let laws_s = sub_laws g.C.SubStore.topic_of g.C.SubStore.start_of g.C.SubStore.content g.C.SubStore.failed g.C.SubStore.holds g.C.SubStore.written g.C.SubStore.stands g.C.SubStore.area g.met.C.SubStore.holds_works g.met.C.SubStore.holds_content g.met.C.SubStore.holds_stands g.met.C.SubStore.holds_longer g.met.C.SubStore.stands_longer g.met.C.SubStore.stands_fits g.met.C.SubStore.area_slots g.met.C.SubStore.holds_local g.met.C.SubStore.written_local in
    let e0 = entry_view g.E.EntryStore.topic_of g.E.EntryStore.start_of g.E.EntryStore.counts g.E.EntryStore.per_ledger g.E.EntryStore.failed g.E.EntryStore.holds c.args.self.now.entries in
    let s0 = sub_view g.C.SubStore.topic_of g.C.SubStore.start_of g.C.SubStore.content g.C.SubStore.failed g.C.SubStore.holds g.C.SubStore.written c.args.self.now.subscriptions in
    let el0 = laws_e c.args.self.now.entries in
    let sl0 = laws_s c.args.self.now.subscriptions in
    let d0 = g.S.Shelf.disk c.args.shelf.now in
    let d1 = g.S.Shelf.disk c.trim.new.shelf in
    let start = c.args.trim.start in
    let low = there g.E.EntryStore.stands g.C.SubStore.stands g.E.EntryStore.area g.C.SubStore.area e0 s0 el0 sl0 ledger kept start c.requires.begins d0.seen x.settled.now.entries in
    let raw = (c.trim.ensures.trims (end_of ledger) s0.start start kept trims low (subs_settled e0 s0 d0 ledger kept x)).within in
    let w1 = within_slots g.E.EntryStore.stands g.C.SubStore.stands g.E.EntryStore.area g.C.SubStore.area e0 s0 el0 sl0 ledger kept start c.requires.begins d0 d1 x raw in
    let d2 = g.S.Shelf.disk c.trim-2.new.shelf in
    let s1 = sub_view g.C.SubStore.topic_of g.C.SubStore.start_of g.C.SubStore.content g.C.SubStore.failed g.C.SubStore.holds g.C.SubStore.written c.trim.new.self in
    let sl1 = laws_s c.trim.new.self in
    let one : s1.topic ≡ e0.topic = c.trim.ensures.topic ∙ x.settled.now.one_topic in
    let said : s1.start ≡ start = c.in_ok-trim.ensures.start s0.start start kept trims in
    let y1 = (c.in_ok-trim.ensures.trims (end_of ledger) s0.start start kept trims low (subs_settled e0 s0 d0 ledger kept x)).added in
    let y1' = subst (λ (begin : Start). Steady (s1.holds (end_of ledger) begin) s1.written d1 kept) (sym said) y1 in
    let x1 = entries_beside g.E.EntryStore.stands g.C.SubStore.stands g.E.EntryStore.area g.C.SubStore.area e0 s0 el0 sl0 _ d0 d1 ledger x.settled.now.one_topic y1.settled.honest (entries_settled e0 s0 d0 ledger kept x) raw in
    let raw2 = c.trim-2.ensures.within ledger x1 in
    let e1 = entry_view g.E.EntryStore.topic_of g.E.EntryStore.start_of g.E.EntryStore.counts g.E.EntryStore.per_ledger g.E.EntryStore.failed g.E.EntryStore.holds c.trim-2.new.self in
    let x2 = c.in_ok-trim-2.ensures.trimmed ledger x1 in
    let y2 = subs_still g.E.EntryStore.stands g.C.SubStore.stands g.E.EntryStore.area g.C.SubStore.area e0 s1 el0 sl1 _ (end_of ledger) d1 d2 kept one (c.trim-2.ensures.kept.honest y1.settled.honest) y1' raw2 in
    cut_settled g.E.EntryStore.stands g.C.SubStore.stands g.E.EntryStore.area g.C.SubStore.area e0 s0 el0 sl0 ledger kept start s1 sl1 e1 d2 (one ∙ sym c.trim-2.ensures.topic) (still_served e0.topic e1.topic c.trim-2.ensures.topic x.settled.now.is_served) said (c.in_ok-trim-2.ensures.start ledger x1) low x2 y2
