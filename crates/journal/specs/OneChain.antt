-- Segments have one first fault, and a chain of the form has none.
use Rattle.std.proofs.Common.{◌≡◌, inl, inr, ⊎_elim, ℕ, ◌+◌, List, [], ◌∷◌, ◌++◌, length, map, refl, sym, ◌∙◌, ap, subst, arith, append_assoc, length-append}
use Rattle.std.specs.List.{flat_map}
use Rattle.std.proofs.lemmas.List.{append-nil}
use Rattle.disk.specs.declared.file_id.TopicId.{TopicId}
use Rattle.disk.specs.declared.file_id.FileId.TheVariants.{Segment}
use Rattle.disk.specs.Disk.{Image}
use Rattle.disk.specs.declared.file_id.Folder.{Folder}
use Rattle.gated_log.specs.declared.refusal.Refusal.{Refusal}
use Rattle.gated_log.specs.Batches.{Bodies, IsLog}
use Rattle.gated_log.specs.Folds as folds
use Rattle.gated_log.specs.OneFault.{log_one, log_no_fault, fault_one}
use Rattle.journal.specs.Chains.{Link, Chain, Stands, ClosedStand, entry, end_mark, batches_of, closed_batches_of, links_of}
use Rattle.journal.specs.Journals.{body_in}
use Rattle.journal.specs.Bodies.{bodies_back, closed_bodies_back, closed_not_last}
use Rattle.journal.specs.Folded.{refusal_of_named, AreOpen, AreClosed, segment_of, segment_form, less_open, segment_entry, segment_mark, IsNamedFault, IsChainFault}

open_entries : (bodies : Bodies) → AreOpen (map entry bodies)
open_entries [] = tt
open_entries (body ∷ bodies) = (record { body = body; is = refl }, open_entries bodies)

closed_entries : (bodies : Bodies) → AreClosed (map entry bodies ++ end_mark ∷ [])
closed_entries [] = inr (refl, refl)
closed_entries (body ∷ bodies) = inl (record { body = body; is = refl }, closed_entries bodies)

closed_one : (folder : Folder) (a b : Link) (file : List ℕ) → IsLog folder a.label (closed_batches_of a) file → IsLog folder b.label (closed_batches_of b) file → a ≡ b
closed_one folder a b file is is' =
    let same = log_one folder a.label b.label (closed_batches_of a) (closed_batches_of b) file is is' in
    let bodies : a.bodies ≡ b.bodies = sym (closed_bodies_back a.bodies) ∙ ap (λ (l : Bodies). flat_map body_in l) same.1 ∙ closed_bodies_back b.bodies in
    (λ i. record { label = same.0 i; bodies = bodies i })

-- the form, which what stands before a segment or a body of it has too
module _ (form : List Link → Type 0) (before : (links : List Link) (link : Link) → form (links ++ link ∷ []) → form links) (less : (links : List Link) (link : Link) (body : List ℕ) → form (links ++ folds.grown link body ∷ []) → form (links ++ link ∷ [])) where
  front : (done : List Link) (link : Link) (more : List Link) → form (done ++ link ∷ more) → form (done ++ link ∷ [])
  front done link [] is = is
  front done link (next ∷ more) is = before (done ++ link ∷ []) next (front (done ++ link ∷ []) next more (subst form (sym (append_assoc done (link ∷ []) (next ∷ more))) is))

  -- a segment's form
  segment_less : (done : List Link) (log : Link) (batch : List ℕ) → segment_form form done (folds.grown log batch) → segment_form form done log
  segment_less done log batch is =
      let kind = less_open log.bodies batch is.0 in (
        inl kind.0,
        ⊎_elim (λ ent. less done (segment_of log) ent.body (subst (λ (l : Link). form (done ++ l ∷ [])) (ap (λ (b : List ℕ). segment_of (folds.grown log b)) ent.is ∙ segment_entry log ent.body) is.1))
            (λ mark. subst (λ (l : Link). form (done ++ l ∷ [])) (ap (λ (b : List ℕ). segment_of (folds.grown log b)) mark ∙ segment_mark log) is.1) kind.1,
      )

  closed_form : (done : List Link) (link : Link) → form (done ++ link ∷ []) → segment_form form done (record { label = link.label; bodies = closed_batches_of link })
  closed_form done link is = (inr (closed_entries link.bodies), subst (λ (b : Bodies). form (done ++ record { label = link.label; bodies = b } ∷ [])) (sym (closed_bodies_back link.bodies)) is)

  last_form : (done : List Link) (link : Link) → form (done ++ link ∷ []) → segment_form form done (record { label = link.label; bodies = batches_of link })
  last_form done link is = (inl (open_entries link.bodies), subst (λ (b : Bodies). form (done ++ record { label = link.label; bodies = b } ∷ [])) (sym (bodies_back link.bodies)) is)

  -- no closed segment of the form stands behind these
  abbrev Ends : TopicId → ℕ → Image → List Link → Type 0
  Ends topic first image links = (link : Link) → form (links ++ link ∷ []) → IsLog topic.folder link.label (closed_batches_of link) (image (Segment topic (first + length links))) → ⊥

  fault_ends : (topic : TopicId) (first : ℕ) (image : Image) (links : List Link) (refusal : Refusal) → IsNamedFault (segment_form form links) (Segment topic (first + length links)) (image (Segment topic (first + length links))) refusal → Ends topic first image links
  fault_ends topic first image links refusal fault link is stands =
      log_no_fault (segment_form form links) (segment_less links) (record { label = link.label; bodies = closed_batches_of link }) (Segment topic (first + length links)) (image (Segment topic (first + length links))) fault.0 (closed_form links link is) stands fault.1

  last_ends : (topic : TopicId) (first : ℕ) (image : Image) (links : List Link) (last : Link) → IsLog topic.folder last.label (batches_of last) (image (Segment topic (first + length links))) → Ends topic first image links
  last_ends topic first image links last is link _ is' = closed_not_last link.bodies last.bodies (log_one topic.folder link.label last.label (closed_batches_of link) (batches_of last) (image (Segment topic (first + length links))) is' is).1

  -- closed segments up to an end are the same
  meet : (topic : TopicId) (first from : ℕ) (image : Image) (done one other : List Link) → from ≡ first + length done → ClosedStand topic from image one → ClosedStand topic from image other → form (done ++ one) → form (done ++ other)
      → Ends topic first image (done ++ one) → Ends topic first image (done ++ other) → one ≡ other
  meet topic first from image done [] [] at stand stand' is is' ends ends' = refl
  meet topic first from image done [] (b ∷ other) at stand stand' is is' ends ends' =
      absurd (subst (λ (l : List Link). Ends topic first image l) (append-nil done) ends b (front done b other is') (subst (λ (n : ℕ). IsLog topic.folder b.label (closed_batches_of b) (image (Segment topic n))) at stand'.0))
  meet topic first from image done (a ∷ one) [] at stand stand' is is' ends ends' =
      absurd (subst (λ (l : List Link). Ends topic first image l) (append-nil done) ends' a (front done a one is) (subst (λ (n : ℕ). IsLog topic.folder a.label (closed_batches_of a) (image (Segment topic n))) at stand.0))
  meet topic first from image done (a ∷ one) (b ∷ other) at stand stand' is is' ends ends' =
      let head : a ≡ b = closed_one topic.folder a b (image (Segment topic from)) stand.0 stand'.0 in
      let next : from + 1 ≡ first + length (done ++ a ∷ []) = omega (arith, at, length-append done (a ∷ [])) in
      let here : done ++ a ∷ one ≡ (done ++ a ∷ []) ++ one = sym (append_assoc done (a ∷ []) one) in
      let here' : done ++ b ∷ other ≡ (done ++ a ∷ []) ++ other = ap (λ (l : Link). done ++ l ∷ other) (sym head) ∙ sym (append_assoc done (a ∷ []) other) in
      let rest = meet topic first (from + 1) image (done ++ a ∷ []) one other next stand.1 stand'.1 (subst form here is) (subst form here' is')
      (subst (λ (l : List Link). Ends topic first image l) here ends) (subst (λ (l : List Link). Ends topic first image l) here' ends') in
      (λ i. head i ∷ rest i)

  -- The segments of a topic have one first fault.
  pub chain_fault_one : (topic : TopicId) (first : ℕ) (image : Image) (one other : Refusal) → IsChainFault form topic first image one → IsChainFault form topic first image other → one ≡ other
  chain_fault_one topic first image one other is is' =
      let at : first ≡ first + 0 = omega arith in
      let same = meet topic first first image [] is.closed is'.closed at is.stand is'.stand is.formed is'.formed (fault_ends topic first image is.closed one is.fault) (fault_ends topic first image is'.closed other is'.fault) in
      let fault : IsNamedFault (segment_form form is'.closed) (Segment topic (first + length is'.closed)) (image (Segment topic (first + length is'.closed))) one =
      subst (λ (l : List Link). IsNamedFault (segment_form form l) (Segment topic (first + length l)) (image (Segment topic (first + length l))) one) same is.fault in
      let told = fault_one (segment_form form is'.closed) (segment_less is'.closed) (Segment topic (first + length is'.closed)) (image (Segment topic (first + length is'.closed))) fault.0 is'.fault.0 fault.1 is'.fault.1 in
      fault.2 ∙ ap (refusal_of_named (Segment topic (first + length is'.closed))) told ∙ sym is'.fault.2

  -- A chain of the form has no fault.
  pub chain_no_fault : (topic : TopicId) (first : ℕ) (image : Image) (chain : Chain) (refusal : Refusal) → Stands topic first image chain → form (links_of chain) → IsChainFault form topic first image refusal → ⊥
  chain_no_fault topic first image chain refusal stands formed is =
      let at : first ≡ first + 0 = omega arith in
      let same = meet topic first first image [] is.closed chain.closed at is.stand stands.closed is.formed (before chain.closed chain.last formed) (fault_ends topic first image is.closed refusal is.fault) (last_ends topic first image chain.closed chain.last stands.last) in
      let fault : IsNamedFault (segment_form form chain.closed) (Segment topic (first + length chain.closed)) (image (Segment topic (first + length chain.closed))) refusal =
      subst (λ (l : List Link). IsNamedFault (segment_form form l) (Segment topic (first + length l)) (image (Segment topic (first + length l))) refusal) same is.fault in
      log_no_fault (segment_form form chain.closed) (segment_less chain.closed) (record { label = chain.last.label; bodies = batches_of chain.last }) (Segment topic (first + length chain.closed)) (image (Segment topic (first + length chain.closed))) fault.0
      (last_form chain.closed chain.last formed) stands.last fault.1
