use Rattle.std.proofs.Common.{◌≡◌, ◌-◌, false, List, Some, refl, sym, subst}
use Rattle.std.specs.List.{All}
use Rattle.std.proofs.lemmas.List.Elements.{All-drop}
use Rattle.gated_log.specs.declared.log.GatedLog.{GatedLog}
use Rattle.gated_log.specs.Logs.{log_id, log_failed}
use Rattle.journal.specs.Files.{segment_topic}
use Rattle.journal.proofs.Dropping.{dropped_within, dropped_settled}
use Rattle.journal.proofs.journal.Journal.drop_before.Goals as goal

pub returns-in_err-drop_segments-clause-within : goal.returns-in_err-drop_segments-clause-within
returns-in_err-drop_segments-clause-within g c = λ chain s.
    dropped_within c.args.self.now c.args.first chain c.requires.first.0 c.requires.first.1 _ _ s (c.drop_segments.ensures.within s.honest)

pub returns-clause-within : goal.returns-clause-within
returns-clause-within g c = λ chain s.
    dropped_within c.args.self.now c.args.first chain c.requires.first.0 c.requires.first.1 _ _ s (c.drop_segments.ensures.within s.honest)

pub returns-clause-dropped : goal.returns-clause-dropped
returns-clause-dropped g c = λ chain s.
    dropped_settled c.args.self.now c.args.first chain c.requires.first.0 c.requires.first.1 _ _ s (c.drop_segments.ensures.within s.honest) _ (c.drop_segments.ensures.kept.honest s.honest) refl refl refl c.forget_first.ensures.items refl

pub invariant_of-self-2 : goal.invariant_of-self-2
invariant_of-self-2 g c =
    let self = c.args.self.now in
    let count = c.args.first - self.first in
    let items = c.forget_first.ensures.items in
    record {
      closed_work = subst (λ (l : List GatedLog). All (λ (log : GatedLog). log_failed log ≡ false) l) (sym {A = List GatedLog} items) (All-drop (λ (log : GatedLog). log_failed log ≡ false) count self.closed.items self.closed_work);
      last_works = λ _. self.last_works c.if-self.false;
      closed_own = subst (λ (l : List GatedLog). All (λ (log : GatedLog). segment_topic (log_id log).file ≡ Some self.topic) l) (sym {A = List GatedLog} items)
          (All-drop (λ (log : GatedLog). segment_topic (log_id log).file ≡ Some self.topic) count self.closed.items self.closed_own);
      last_own = self.last_own;
      in_range = c.requires.in_range;
    }
