-- A file stands for one log and has one first fault, and a log of the form has none.
use Rattle.std.proofs.Common.{◌≡◌, ◌⊎◌, inl, inr, ⊎_elim, ℕ, ◌≤◌, List, [], ◌∷◌, ◌++◌, length, refl, sym, ◌∙◌, ap, subst, arith, append_assoc, length-append}
use Rattle.std.proofs.lemmas.List.{append-nil}
use Rattle.disk.specs.declared.file_id.FileId.{FileId}
use Rattle.gated_log.specs.declared.refusal.Refusal.{Refusal}
use Rattle.gated_log.specs.declared.refusal.Refusal.TheVariants.{Device, NotInitialised, Version, Damaged, NoMemory, TooLarge}
use Rattle.disk.specs.declared.file_id.Folder.{Folder}
use Rattle.disk.specs.Areas.{folder_of}
use Rattle.gated_log.specs.declared.label.Label.{Label}
use Rattle.gated_log.specs.Labels.{header, IsLabel}
use Rattle.gated_log.specs.Batches.{Bodies, sized, batches, opened, AllFit, IsLog}
use Rattle.gated_log.specs.Headers.{HasOpenHeader, IsHeaderDamaged, IsOtherVersion}
use Rattle.gated_log.specs.Folds.{Link, Form, any, begun, grown, IsBatch, IsBatchFault, IsLabelFault, IsFault}
use Rattle.gated_log.specs.One.{GoesOn, goes_on, compare_opened, version_open, version_not_damaged, long_header, HasGoodHeader, good_header}

fit_there : (bs : Bodies) (b : List ℕ) (ds : Bodies) → AllFit (bs ++ b ∷ ds) → length b ≤ 33554432
fit_there [] b ds fit = fit.0
fit_there (c ∷ bs) b ds fit = fit_there bs b ds fit.1

-- bytes behind a header and a gate
record Labelled (folder : Folder) (label : Label) (file : List ℕ) : Type 0 where
  pub gate : ℕ
  pub rest : List ℕ
  pub bytes : file ≡ opened folder label [] ++ gate ∷ rest

labelled : (folder : Folder) (form : Form) (file : List ℕ) → (is : IsLabelFault folder form file) → Labelled folder is.label file
unfolding opened
labelled folder form file is = behind is.is_open.rest is.is_open.bytes
  where
    behind : (rest : List ℕ) → file ≡ header folder 1 is.label ++ rest → Labelled folder is.label file
    behind [] bytes = absurd (omega (arith, is.long, ap length bytes, length-append (header folder 1 is.label) [], long_header folder is.label))
    behind (gate ∷ rest) bytes = record { gate = gate; rest = rest; bytes = bytes ∙ ap (λ (l : List ℕ). l ++ gate ∷ rest) (sym (append-nil (header folder 1 is.label))) }

module _ (folder : Folder) (form : Form) (less : (log : Link) (body : List ℕ) → form (grown log body) → form log) where
  front : (n : Label) (bs : Bodies) (b : List ℕ) (ds : Bodies) → form (record { label = n; bodies = bs ++ b ∷ ds }) → form (record { label = n; bodies = bs ++ b ∷ [] })
  front n bs b [] is = is
  front n bs b (d ∷ ds) is = less (record { label = n; bodies = bs ++ b ∷ [] }) d (front n (bs ++ b ∷ []) d ds (subst (λ (l : Bodies). form (record { label = n; bodies = l })) (sym (append_assoc bs (b ∷ []) (d ∷ ds))) is))

  bare : (n : Label) (bs : Bodies) → form (record { label = n; bodies = bs }) → form (begun n)
  bare n [] is = is
  bare n (b ∷ bs) is = less (begun n) b (front n [] b bs is)

  -- whole batches of the form up to a gate, behind which stands none that may follow them
  record Reading (log : Link) (gate : ℕ) (rest file : List ℕ) : Type 0 where
    pub in_range : IsLabel folder log.label
    pub fit : AllFit log.bodies
    pub formed : form log
    pub bytes : file ≡ opened folder log.label log.bodies ++ gate ∷ rest
    pub ends : (body : List ℕ) → form (grown log body) → gate ≡ 1 → ¬ IsBatch body rest

  log_reading : (log : Link) (file : List ℕ) → form log → (is : IsLog folder log.label log.bodies file) → Reading log is.gate is.rest file
  log_reading log file formed is = record { in_range = is.in_range; fit = is.fit; formed = formed; bytes = is.bytes; ends = λ body more one. absurd (is.closed one) }

  fault_reading : (offset : ℕ) (file : List ℕ) → (is : IsBatchFault folder form offset file) → Reading is.log 1 is.rest file
  fault_reading offset file is = record { in_range = is.in_range; fit = is.fit; formed = is.formed; bytes = is.bytes; ends = λ body more one. is.none_follows body more }

  -- no other reading goes on behind one
  no_further : (one other : Link) (gate gate' : ℕ) (rest rest' file : List ℕ) → one.label ≡ other.label → Reading one gate rest file → Reading other gate' rest' file → GoesOn one.bodies other.bodies (gate ∷ rest) (gate' ∷ rest') → ⊥
  no_further one other gate gate' rest rest' file same is is' on =
      let next = goes_on on.more (gate' ∷ rest') (record { gate = gate'; rest = rest'; is = refl }) in
      let bytes : gate ∷ rest ≡ 1 ∷ (sized on.body ++ next.gate ∷ next.rest) = on.bytes_are ∙ append_assoc (1 ∷ sized on.body) (batches on.more) (gate' ∷ rest') ∙ ap (λ (l : List ℕ). 1 ∷ (sized on.body ++ l)) next.is in
      let gate_is : gate ≡ 1 = cc in
      let rest_is : rest ≡ sized on.body ++ next.gate ∷ next.rest = cc in
      let formed : form (record { label = one.label; bodies = one.bodies ++ on.body ∷ on.more }) = subst (λ (b : Bodies). form (record { label = one.label; bodies = b })) on.bodies_are (subst (λ (n : Label). form (record { label = n; bodies = other.bodies })) (sym same) is'.formed) in
      let fits : length on.body ≤ 33554432 = fit_there one.bodies on.body on.more (subst (λ (b : Bodies). AllFit b) on.bodies_are is'.fit) in
      is.ends on.body (front one.label one.bodies on.body on.more formed) gate_is (record { gate = next.gate; rest = next.rest; fits = fits; bytes_are = rest_is })

  reading_one : (one other : Link) (gate gate' : ℕ) (rest rest' file : List ℕ) → Reading one gate rest file → Reading other gate' rest' file → (one.label ≡ other.label) × (one.bodies ≡ other.bodies) × (gate ∷ rest ≡ gate' ∷ rest')
  reading_one one other gate gate' rest rest' file is is' =
      let both = compare_opened folder one.label other.label one.bodies other.bodies (gate ∷ rest) (gate' ∷ rest') is.in_range is'.in_range is.fit is'.fit (sym is.bytes ∙ is'.bytes) in
      ⊎_elim (λ same. (both.0, same.0, same.1))
      (λ on. absurd (⊎_elim (no_further one other gate gate' rest rest' file both.0 is is') (no_further other one gate' gate rest' rest file (sym both.0) is' is) on)) both.1

  reading_header : (log : Link) (gate : ℕ) (rest file : List ℕ) → Reading log gate rest file → HasGoodHeader folder file
  reading_header log gate rest file is = good_header folder log.label gate log.bodies rest file is.bytes

  label_header : (file : List ℕ) → IsLabelFault folder form file → HasGoodHeader folder file
  label_header file is = let there = labelled folder form file is in good_header folder is.label there.gate [] there.rest file there.bytes

  -- a label that is refused has no reading
  label_no_reading : (log : Link) (gate : ℕ) (rest file : List ℕ) → Reading log gate rest file → IsLabelFault folder form file → ⊥
  label_no_reading log gate rest file is bad =
      let there = labelled folder form file bad in
      let same = (compare_opened folder log.label bad.label log.bodies [] (gate ∷ rest) (there.gate ∷ there.rest) is.in_range bad.is_open.in_range is.fit tt (sym is.bytes ∙ there.bytes)).0 in
      bad.bad (subst (λ (n : Label). form (begun n)) same (bare log.label log.bodies is.formed))

  -- a reading has no fault before its gate
  abbrev HeaderFault : List ℕ → Type 0
  HeaderFault file = IsHeaderDamaged folder file ⊎ IsLabelFault folder form file

  header_no_reading : (log : Link) (gate : ℕ) (rest file : List ℕ) → Reading log gate rest file → HeaderFault file → ⊥
  header_no_reading log gate rest file is (inl damaged) = (reading_header log gate rest file is).not_damaged damaged
  header_no_reading log gate rest file is (inr bad) = label_no_reading log gate rest file is bad

  abbrev Damage : ℕ → List ℕ → Type 0
  Damage offset file = (HeaderFault file × (offset ≡ 0)) ⊎ IsBatchFault folder form offset file

  damage_open : (offset : ℕ) (file : List ℕ) → Damage offset file → HasOpenHeader folder file
  damage_open offset file (inl (inl is, at)) = is.0
  damage_open offset file (inl (inr is, at)) = (label_header file is).is_open
  damage_open offset file (inr is) = (reading_header is.log 1 is.rest file (fault_reading offset file is)).is_open

  damage_version : (offset : ℕ) (file : List ℕ) → IsOtherVersion folder file → Damage offset file → ⊥
  damage_version offset file other (inl (inl is, at)) = version_not_damaged folder file other is
  damage_version offset file other (inl (inr is, at)) = (label_header file is).this_version other
  damage_version offset file other (inr is) = (reading_header is.log 1 is.rest file (fault_reading offset file is)).this_version other

  damage_one : (at to : ℕ) (file : List ℕ) → Damage at file → Damage to file → at ≡ to
  damage_one at to file (inl is) (inl is') = is.1 ∙ sym is'.1
  damage_one at to file (inl is) (inr is') = absurd (header_no_reading is'.log 1 is'.rest file (fault_reading to file is') is.0)
  damage_one at to file (inr is) (inl is') = absurd (header_no_reading is.log 1 is.rest file (fault_reading at file is) is'.0)
  damage_one at to file (inr is) (inr is') =
      let same = reading_one is.log is'.log 1 1 is.rest is'.rest file (fault_reading at file is) (fault_reading to file is') in
      is.offset_is ∙ (λ i. length (opened folder (same.0 i) (same.1 i))) ∙ sym is'.offset_is

module _ (form : Form) (less : (log : Link) (body : List ℕ) → form (grown log body) → form log) where
  -- A log of the form has no fault.
  pub log_no_fault : (log : Link) (name : FileId) (file : List ℕ) (refusal : Refusal) → form log → IsLog (folder_of name) log.label log.bodies file → IsFault form name file refusal → ⊥
  log_no_fault log name file NotInitialised formed is fault = fault (reading_header (folder_of name) form less log is.gate is.rest file (log_reading (folder_of name) form less log file formed is)).is_open
  log_no_fault log name file Version formed is fault = (reading_header (folder_of name) form less log is.gate is.rest file (log_reading (folder_of name) form less log file formed is)).this_version fault
  log_no_fault log name file (Damaged of offset) formed is (named, inl bad) = header_no_reading (folder_of name) form less log is.gate is.rest file (log_reading (folder_of name) form less log file formed is) bad.0
  log_no_fault log name file (Damaged of offset) formed is (named, inr there) =
      let same = (reading_one (folder_of name) form less log there.log is.gate 1 is.rest there.rest file (log_reading (folder_of name) form less log file formed is) (fault_reading (folder_of name) form less offset file there)).2 in
      let gate_is : is.gate ≡ 1 = cc in
      is.closed gate_is
  log_no_fault log name file Device formed is fault = fault
  log_no_fault log name file NoMemory formed is fault = fault
  log_no_fault log name file TooLarge formed is fault = fault

  -- A file has one first fault.
  pub fault_one : (name : FileId) (file : List ℕ) (one other : Refusal) → IsFault form name file one → IsFault form name file other → one ≡ other
  fault_one name file NotInitialised NotInitialised is is' = refl
  fault_one name file NotInitialised Version is is' = absurd (is (version_open (folder_of name) file is'))
  fault_one name file NotInitialised (Damaged of at) is is' = absurd (is (damage_open (folder_of name) form less at file is'.1))
  fault_one name file Version NotInitialised is is' = absurd (is' (version_open (folder_of name) file is))
  fault_one name file Version Version is is' = refl
  fault_one name file Version (Damaged of at) is is' = absurd (damage_version (folder_of name) form less at file is is'.1)
  fault_one name file (Damaged of at) NotInitialised is is' = absurd (is' (damage_open (folder_of name) form less at file is.1))
  fault_one name file (Damaged of at) Version is is' = absurd (damage_version (folder_of name) form less at file is' is.1)
  fault_one name file (Damaged of at) (Damaged of' to) is is' = (λ i. Damaged ((is.0 ∙ sym is'.0) i) (damage_one (folder_of name) form less at to file is.1 is'.1 i))
  fault_one name file NotInitialised Device is is' = absurd is'
  fault_one name file NotInitialised NoMemory is is' = absurd is'
  fault_one name file NotInitialised TooLarge is is' = absurd is'
  fault_one name file Version Device is is' = absurd is'
  fault_one name file Version NoMemory is is' = absurd is'
  fault_one name file Version TooLarge is is' = absurd is'
  fault_one name file (Damaged of at) Device is is' = absurd is'
  fault_one name file (Damaged of at) NoMemory is is' = absurd is'
  fault_one name file (Damaged of at) TooLarge is is' = absurd is'
  fault_one name file Device other is is' = absurd is
  fault_one name file NoMemory other is is' = absurd is
  fault_one name file TooLarge other is is' = absurd is

-- A file stands for one label and one list.
pub log_one : (folder : Folder) (l m : Label) (one other : Bodies) (file : List ℕ) → IsLog folder l one file → IsLog folder m other file → (l ≡ m) × (one ≡ other)
log_one folder l m one other file is is' =
    let less : (log : Link) (body : List ℕ) → any (grown log body) → any log = λ log body x. x in
    let this : Link = record { label = l; bodies = one } in
    let that : Link = record { label = m; bodies = other } in
    let same = reading_one folder any less this that is.gate is'.gate is.rest is'.rest file (log_reading folder any less this file tt is) (log_reading folder any less that file tt is') in
    (same.0, same.1)
