-- What every move respects, every run of moves respects.
use Rattle.std.proofs.Common.{◌≡◌, List, [], ◌∷◌, ◌++◌, suc, length, refl, ap, sym, subst}
use Rattle.topic_core.specs.State.{Topic}
use Rattle.node.specs.Moves.{Move, MoveStep, Moves}
use Rattle.node.specs.Runs.{Chain}
use Rattle.node.specs.declared.event.Output.{Output}

pub record Respected (R : Topic → List Move → Topic → Type 0) : Type 0 where
  pub same : (t : Topic) → R t [] t
  pub then : (t : Topic) (move : Move) (u : Topic) (moves : List Move) (v : Topic) → MoveStep t move u → R u moves v → R t (move ∷ moves) v

pub respects : (R : Topic → List Move → Topic → Type 0) → Respected R → (t : Topic) (moves : List Move) (u : Topic) → Moves t moves u → R t moves u
respects R by t [] u steps = subst (λ (x : Topic). R t [] x) (sym steps) (by.same t)
respects R by t (move ∷ moves) u steps = by.then t move steps.0 moves u steps.1 (respects R by steps.0 moves u steps.2)

-- steps, one after another
module _ {S X : Type 0} (Step : S → X → Output → S → Type 0) where
  -- what each of them keeps
  pub chain_keeps : (P : S → Type 0) → ((a : S) (x : X) (o : Output) (b : S) → Step a x o b → P a → P b) → (a : S) (xs : List X) (os : List Output) (b : S) → Chain Step a xs os b → P a → P b
  chain_keeps P by a [] [] b s h = subst P (sym s) h
  chain_keeps P by a (x ∷ xs) (o ∷ os) b s h = chain_keeps P by s.0 xs os b s.2 (by a x o s.0 s.1 h)
  chain_keeps P by a [] (o ∷ os) b s h = absurd s
  chain_keeps P by a (x ∷ xs) [] b s h = absurd s

  -- one more
  pub chain-push : (a : S) (xs : List X) (os : List Output) (m : S) (x : X) (o : Output) (b : S) → Chain Step a xs os m → Step m x o b → Chain Step a (xs ++ x ∷ []) (os ++ o ∷ []) b
  chain-push a [] [] m x o b r s = let P : S → Type 0 = λ z. Step z x o b in (b, subst P r s, refl)
  chain-push a (y ∷ ys) (p ∷ os) m x o b r s = (r.0, r.1, chain-push r.0 ys os m x o b r.2 s)
  chain-push a [] (p ∷ os) m x o b r s = absurd r
  chain-push a (y ∷ ys) [] m x o b r s = absurd r

  -- there are as many outputs
  pub chain-length : (a : S) (xs : List X) (os : List Output) (b : S) → Chain Step a xs os b → length os ≡ length xs
  chain-length a [] [] b s = refl
  chain-length a (x ∷ xs) (o ∷ os) b s = ap (λ n. suc n) (chain-length s.0 xs os b s.2)
  chain-length a [] (o ∷ os) b s = absurd s
  chain-length a (x ∷ xs) [] b s = absurd s
