-- The batches of a log behind another header.
use Rattle.std.proofs.Common.{◌≡◌, ℕ, ◌+◌, ◌-◌, ◌≤◌, List, [], ◌∷◌, ◌++◌, length, take, drop, sym, ◌∙◌, ap, arith, append_assoc}
use Rattle.std.proofs.lemmas.List.{take_at, drop_at, drop_all, append-nil}
use Rattle.disk.specs.declared.file_id.Folder.{Folder}
use Rattle.disk.specs.Disk.{Overwritten}
use Rattle.gated_log.specs.declared.label.Label.{Label}
use Rattle.gated_log.specs.Labels.{header, header_size, IsLabel}
use Rattle.gated_log.specs.Batches.{Bodies, batches, opened, IsLog}
use Rattle.gated_log.specs.One.{long_header}
use Rattle.gated_log.specs.Sizes.{length-opened}
use Rattle.gated_log.proofs.Places.{log_long}

-- the batches stand behind the header
batches_in : (folder : Folder) (label : Label) (bodies : Bodies) (file : List ℕ) (count : ℕ) → IsLog folder label bodies file → count ≡ length (batches bodies) → take count (drop (header_size folder) file) ≡ batches bodies
unfolding opened
batches_in folder label bodies file count is count_is =
    let tail = is.gate ∷ is.rest in
    let bytes : file ≡ header folder 1 label ++ (batches bodies ++ tail) = is.bytes ∙ append_assoc (header folder 1 label) (batches bodies) tail in
    ap (λ (l : List ℕ). take count (drop (header_size folder) l)) bytes
    ∙ ap (λ (l : List ℕ). take count l) (drop_at (header folder 1 label) (batches bodies ++ tail) (header_size folder) (long_header folder label))
    ∙ take_at (batches bodies) tail count (sym count_is)

-- how many bytes they are
batches_long : (folder : Folder) (label : Label) (bodies : Bodies) (end count : ℕ) → end ≡ length (opened folder label bodies) → count ≡ end - header_size folder → count ≡ length (batches bodies)
batches_long folder label bodies end count end_is count_is = omega (arith, end_is, count_is, length-opened folder label bodies)

pub enough : (folder : Folder) (label : Label) (bodies : Bodies) (file : List ℕ) (end count : ℕ) → IsLog folder label bodies file → end ≡ length (opened folder label bodies) → count ≡ end - header_size folder → header_size folder + count ≤ length file
enough folder label bodies file end count is end_is count_is = omega (arith, end_is, count_is, length-opened folder label bodies, log_long folder label bodies file is)

-- a closed gate at the end
closed_end : (at : ℕ) (old new : List ℕ) → at ≡ length old → Overwritten at (0 ∷ []) old new → new ≡ old ++ 0 ∷ []
closed_end at old new at_is is =
    let front : take at old ≡ old = ap (λ (l : List ℕ). take at l) (sym (append-nil old)) ∙ take_at old [] at (sym at_is) in
    is ∙ (λ i. (front i ++ (0 ∷ [])) ++ past i) ∙ append-nil (old ++ 0 ∷ [])
  where
    past : drop (at + 1) old ≡ []
    past = drop_all (at + 1) old (omega (arith, at_is))

pub copied_log : (folder to : Folder) (was label : Label) (bodies : Bodies) (file begun copied new : List ℕ) (end count at : ℕ) → IsLog folder was bodies file → end ≡ length (opened folder was bodies) → count ≡ end - header_size folder
    → begun ≡ header to 1 label → copied ≡ begun ++ take count (drop (header_size folder) file) → at ≡ length copied → Overwritten at (0 ∷ []) copied new → IsLabel to label → IsLog to label bodies new
unfolding opened
copied_log folder to was label bodies file begun copied new end count at is end_is count_is begun_is copied_is at_is written good =
    let same = batches_in folder was bodies file count is (batches_long folder was bodies end count end_is count_is) in
    let here : copied ≡ header to 1 label ++ batches bodies = copied_is ∙ (λ i. begun_is i ++ same i) in
    record {
      gate = 0;
      rest = [];
      closed = λ one. cc;
      in_range = good;
      fit = is.fit;
      bytes = closed_end at copied new at_is written ∙ ap (λ (l : List ℕ). l ++ 0 ∷ []) here;
    }
