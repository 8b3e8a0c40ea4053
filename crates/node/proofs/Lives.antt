-- Lives, one happening longer.
use Rattle.std.proofs.Common.{◌≡◌, List, [], ◌∷◌, ◌++◌, suc, length, take, subst, sym, ap, ◌∙◌, append-nil, append_assoc}
use Rattle.node.specs.Runs.{Life, HappeningStep, AllowedRun}
use Rattle.node.specs.declared.event.Happening.{Happening}
use Rattle.node.specs.declared.event.Output.{Output}
use Rattle.node.proofs.Carrying.{chain-length}
use Rattle.node.proofs.Reaching.{front_of}

-- the worked happenings are the front that has as many as there are outputs
pub front_run : (a : Life) (all hs rest : List Happening) (outputs : List Output) (b : Life) → all ≡ hs ++ rest → AllowedRun a hs outputs b → AllowedRun a (take (length outputs) all) outputs b
front_run a all hs rest outputs b is run = subst (λ (z : List Happening). AllowedRun a z outputs b) (sym (front_of all hs rest outputs is (chain-length HappeningStep a hs outputs b run))) run

-- what is there when nothing was added, and when one output more was
pub none_added : (before after : List Output) → after ≡ before → after ≡ before ++ []
none_added before after is = is ∙ sym (append-nil before)

pub one_added : (before between after answers : List Output) (output : Output) → between ≡ before ++ answers → after ≡ between ++ output ∷ [] → after ≡ before ++ (answers ++ output ∷ [])
one_added before between after answers output was is = is ∙ ap (λ (os : List Output). os ++ output ∷ []) was ∙ append_assoc before answers (output ∷ [])

pub none_more : (before answers between after : List Output) → after ≡ between → between ≡ before ++ answers → after ≡ before ++ answers
none_more before answers between after same is = same ∙ is

-- all were worked
pub all_worked : (happenings worked rest : List Happening) → happenings ≡ worked ++ rest → rest ≡ [] → worked ≡ happenings
all_worked happenings worked rest is none = sym (is ∙ ap (λ (hs : List Happening). worked ++ hs) none ∙ append-nil worked)

pub worked_length : (a : Life) (worked happenings : List Happening) (outputs : List Output) (b : Life) (first : Happening) → worked ≡ happenings → AllowedRun a (first ∷ worked) outputs b → length outputs ≡ suc (length happenings)
worked_length a worked happenings outputs b first is run = chain-length HappeningStep a (first ∷ worked) outputs b run ∙ ap (λ (hs : List Happening). suc (length hs)) is
