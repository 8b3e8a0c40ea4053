-- An opening goes from body to body.
use Rattle.std.proofs.Common.{◌≡◌, inl, inr, ℕ, ◌+◌, ◌≤◌, List, [], ◌∷◌, ◌++◌, length, refl, sym, ◌∙◌, ap, subst, arith, length-append}
use Rattle.std.proofs.lemmas.List.{append-nil}
use Rattle.disk.specs.declared.file_id.FileId.{FileId}
use Rattle.disk.specs.Disk.{Disk, Image, Synced, Leaves, Kept}
use Rattle.disk.specs.Moments.{joins, starts}
use Rattle.disk.specs.declared.file_id.Folder.{Folder}
use Rattle.disk.specs.declared.file_id.Folder.TheVariants.{One, Two}
use Rattle.disk.specs.Areas.{folder_of}
use Rattle.gated_log.specs.Labels.{header, header_size}
use Rattle.gated_log.specs.declared.head.LogHead.{LogHead}
use Rattle.gated_log.specs.declared.log.GatedLog.{GatedLog}
use Rattle.gated_log.specs.declared.log_id.LogId.{LogId}
use Rattle.gated_log.specs.declared.reader.LogReader.{LogReader}
use Rattle.gated_log.specs.declared.refusal.Refusal.{Refusal}
use Rattle.gated_log.specs.declared.refusal.Refusal.TheVariants.{Damaged}
use Rattle.gated_log.specs.Batches.{Bodies, sized, opened, AllFit}
use Rattle.gated_log.specs.Headers.{IsOpen}
use Rattle.gated_log.specs.Folds.{Link, FitsFile, begun, grown, Form, IsFault}
use Rattle.gated_log.specs.Head.{HasHead}
use Rattle.disk.specs.Contents.{Settled}
use Rattle.gated_log.specs.Local.{holds_local_lem}
use Rattle.gated_log.specs.Logs.{LogHolds, log_id}
use Rattle.gated_log.specs.One.{opened_push, sized_one, long_header}
use Rattle.gated_log.specs.Reading.{reader_at, HasRead, IsDamagedBehind, IsHeaderRefusal}
use Rattle.gated_log.proofs.Further.{still_synced}
use Rattle.gated_log.specs.Sizes.{length-opened, length-opened_push}

-- the log that a reader has read
abbrev pub log_of : LogReader → Bodies → Link
log_of reader bodies = record { label = reader.id.label; bodies = bodies }

-- what an opening keeps true from body to body
pub record Going (head : LogHead) (first now : Disk) (held holds : List Link → Type 0) (reader : LogReader) : Type 0 where
  pub kept : Kept first now
  pub file_is : reader.id.file ≡ head.file
  pub seen : first.honest → now.seen ≡ first.seen
  pub any_moment : first.honest → Leaves first.may_leave first now
  pub synced : first.honest → HasHead head first → Synced head.file now
  pub read : (before : List Link) → held before → (bodies : Bodies) × (reader_at reader ≡ length (opened (folder_of reader.id.file) reader.id.label bodies)) × (first.honest → HasHead head first → HasRead reader now.seen bodies) × holds (before ++ log_of reader bodies ∷ [])

-- where a reader comes to behind a body more
behind_body : (old reader : LogReader) (bodies : Bodies) (body : List ℕ) → reader.id ≡ old.id → reader_at old ≡ length (opened (folder_of old.id.file) old.id.label bodies) → reader_at reader ≡ reader_at old + 5 + length body
    → reader_at reader ≡ length (opened (folder_of reader.id.file) reader.id.label (bodies ++ body ∷ []))
behind_body old reader bodies body same was at =
    let here : reader_at reader ≡ length (opened (folder_of old.id.file) old.id.label (bodies ++ body ∷ [])) = omega (arith, was, at, length-opened_push (folder_of old.id.file) old.id.label bodies body) in
    subst (λ (i : LogId). reader_at reader ≡ length (opened (folder_of i.file) i.label (bodies ++ body ∷ []))) (sym same) here

-- the shortest header
least : (folder : Folder) → 16 ≤ header_size folder
least One = omega arith
least Two = omega arith

-- and no file is so long
fits_read : (old reader : LogReader) (bodies : Bodies) (body : List ℕ) → reader_at old ≡ length (opened (folder_of old.id.file) old.id.label bodies) → reader_at reader ≡ reader_at old + 5 + length body → FitsFile (grown (log_of old bodies) body)
fits_read old reader bodies body was at = omega (arith, was, at, length-opened_push (folder_of old.id.file) old.id.label bodies body, length-opened (folder_of old.id.file) old.id.label (bodies ++ body ∷ []), least (folder_of old.id.file), reader.before_end, reader.bounded)

-- at the first gate
pub at_first : (reader : LogReader) → reader_at reader ≡ header_size (folder_of reader.id.file) → reader_at reader ≡ length (opened (folder_of reader.id.file) reader.id.label [])
unfolding opened
at_first reader at = omega (arith, at, length-append (header (folder_of reader.id.file) 1 reader.id.label) [], long_header (folder_of reader.id.file) reader.id.label)

pub leaves_on : (first mid new : Disk) → Leaves first.may_leave first mid → Leaves mid.may_leave mid new → Leaves first.may_leave first new
leaves_on first mid new one other = joins first.may_leave mid.may_leave first.may_leave first mid new one other (λ image left. left) (λ image left. one.now image left)

pub kept_on : (first mid new : Disk) → Kept first mid → Kept mid new → Kept first new
kept_on first mid new one other = record {
  faults = omega (arith, one.faults, other.faults);
  honest = λ h. other.honest (one.honest h);
  not_honest = λ h. one.not_honest (other.not_honest h);
}

-- before the first body
pub goes_first : (head : LogHead) (disk : Disk) (held holds : List Link → Type 0) (reader : LogReader) → reader.id.file ≡ head.file → reader_at reader ≡ header_size (folder_of reader.id.file) → (HasHead head disk → HasRead reader disk.seen [])
    → ((before : List Link) → held before → holds (before ++ begun reader.id.label ∷ [])) → Going head disk disk held holds reader
goes_first head disk held holds reader file at read taken = record {
  kept = record { faults = omega arith; honest = λ h. h; not_honest = λ h. h };
  file_is = file;
  seen = λ h. refl;
  any_moment = λ h. starts disk.may_leave disk (λ c left. left);
  synced = λ h has. has.synced;
  read = λ before is. ([], at_first reader at, λ h has. read has, taken before is);
}

-- a body more
pub goes_more : (head : LogHead) (first mid new : Disk) (held holds holds' : List Link → Type 0) (old reader : LogReader) (body : List ℕ) → Going head first mid held holds old
    → Kept mid new → reader.id ≡ old.id → (mid.honest → new.seen ≡ mid.seen) → (mid.honest → Leaves mid.may_leave mid new)
    → reader_at reader ≡ reader_at old + 5 + length body
    → ((bodies : Bodies) → mid.honest → HasRead old mid.seen bodies → HasRead reader mid.seen (bodies ++ body ∷ []))
    → ((logs : List Link) (log : Link) → holds (logs ++ log ∷ []) → FitsFile (grown log body) → holds' (logs ++ grown log body ∷ []))
    → Going head first new held holds' reader
goes_more head first mid new held holds holds' old reader body so_far kept same seen leaves at next taken = record {
  kept = kept_on first mid new so_far.kept kept;
  file_is = ap (λ (i : LogId). i.file) same ∙ so_far.file_is;
  seen = λ h. seen (so_far.kept.honest h) ∙ so_far.seen h;
  any_moment = λ h. leaves_on first mid new (so_far.any_moment h) (leaves (so_far.kept.honest h));
  synced = λ h has. still_synced head.file mid new (so_far.synced h has) (seen (so_far.kept.honest h)) (leaves (so_far.kept.honest h));
  read = λ before held'.
      let was = so_far.read before held' in
      let bodies = was.0 in
      let more : first.honest → HasHead head first → HasRead reader new.seen (bodies ++ body ∷ []) = λ h has. subst (λ (i : Image). HasRead reader i (bodies ++ body ∷ [])) (sym (seen (so_far.kept.honest h))) (next bodies (so_far.kept.honest h) (was.2 h has)) in
      let held'' = taken before (log_of old bodies) was.3 (fits_read old reader bodies body was.1 at) in (
        bodies ++ body ∷ [],
        behind_body old reader bodies body same was.1 at,
        more,
        subst (λ (i : LogId). holds' (before ++ record { label = i.label; bodies = bodies ++ body ∷ [] } ∷ [])) (sym same) held'',
      );
}

-- the fault of a header
pub header_fault : (form : Form) (file : FileId) (bytes : List ℕ) (refusal : Refusal) → IsHeaderRefusal file bytes refusal → IsFault form file bytes refusal
header_fault form file bytes refusal (inl is) = subst (λ (e : Refusal). IsFault form file bytes e) (sym is.0) is.1
header_fault form file bytes refusal (inr (inl is)) = subst (λ (e : Refusal). IsFault form file bytes e) (sym is.0) is.1
header_fault form file bytes refusal (inr (inr is)) = subst (λ (e : Refusal). IsFault form file bytes e) (sym is.0) (refl, inl (inl is.1, refl))

-- the label of a header
pub label_fault : (form : Form) (file : FileId) (image : Image) (reader : LogReader) → HasRead reader image [] → reader.id.file ≡ file → ¬ form (begun reader.id.label) → IsFault form file (image file) (Damaged file 0)
unfolding opened
label_fault form file image reader read file_is bad =
    let folder = folder_of reader.id.file in
    let label = reader.id.label in
    let bytes : image reader.id.file ≡ header folder 1 label ++ read.rest = read.bytes ∙ ap (λ (l : List ℕ). l ++ read.rest) (append-nil (header folder 1 label)) in
    let is_open : IsOpen folder label (image reader.id.file) = record { rest = read.rest; in_range = read.in_range; bytes = bytes } in
    let long : header_size folder + 1 ≤ length (image reader.id.file) = omega (arith, reader.before_end, read.size_is, read.at_is, length-append (header folder 1 label) [], long_header folder label) in
    subst (λ (f : FileId). IsFault form f (image f) (Damaged f 0)) file_is (refl, inl (inr (record { label = label; long = long; is_open = is_open; bad = bad }), refl))

-- the fault at a gate
pub gate_fault : (form : Form) (file : FileId) (image : Image) (reader : LogReader) (bodies : Bodies) (refusal : Refusal) → HasRead reader image bodies → reader.id.file ≡ file → form (log_of reader bodies)
    → IsDamagedBehind reader image bodies refusal → IsFault form file (image file) refusal
gate_fault form file image reader bodies refusal read file_is formed damaged =
    let at = length (opened (folder_of reader.id.file) reader.id.label bodies) in
    let told : refusal ≡ Damaged file at = damaged.told ∙ ap (λ (f : FileId). Damaged f at) file_is in
    subst (λ (e : Refusal). IsFault form file (image file) e) (sym told) (subst (λ (f : FileId). IsFault form f (image f) (Damaged f at)) file_is (
      refl,
      inr (record {
        log = log_of reader bodies;
        rest = damaged.rest;
        in_range = read.in_range;
        fit = read.fit;
        formed = formed;
        bytes = damaged.bytes;
        offset_is = refl;
        none_follows = λ body more batch. damaged.not_whole (length body) (record { body = body; gate = batch.gate; rest = batch.rest; size_is = refl; fits = batch.fits; bytes_are = batch.bytes_are });
      }),
    ))

pub last_fits : (bodies : Bodies) (body : List ℕ) (reader : LogReader) (image : Image) → HasRead reader image (bodies ++ body ∷ []) → length body ≤ 33554432
last_fits bodies body reader image read = last bodies read.fit
  where
    last : (bs : Bodies) → AllFit (bs ++ body ∷ []) → length body ≤ 33554432
    last [] fit = fit.0
    last (b ∷ bs) fit = last bs fit.1

-- the fault of a body
pub body_fault : (form : Form) (file : FileId) (image : Image) (old new : LogReader) (bodies : Bodies) (body : List ℕ) (gate : ℕ) → HasRead old image bodies → HasRead new image (bodies ++ body ∷ []) → new.id ≡ old.id → old.id.file ≡ file
    → form (log_of old bodies) → ¬ form (grown (log_of old bodies) body) → gate ≡ length (opened (folder_of old.id.file) old.id.label bodies) → IsFault form file (image file) (Damaged file gate)
body_fault form file image old new bodies body gate read more same file_is formed bad gate_is =
    let folder = folder_of old.id.file in
    let label = old.id.label in
    let here : image old.id.file ≡ opened folder label (bodies ++ body ∷ []) ++ more.rest = subst (λ (i : LogId). image i.file ≡ opened (folder_of i.file) i.label (bodies ++ body ∷ []) ++ more.rest) same more.bytes in
    let bytes : image old.id.file ≡ opened folder label bodies ++ 1 ∷ (sized body ++ more.rest) = here ∙ opened_push folder label bodies body more.rest in
    subst (λ (f : FileId). IsFault form f (image f) (Damaged f gate)) file_is (
      refl,
      inr (record {
        log = log_of old bodies;
        rest = sized body ++ more.rest;
        in_range = read.in_range;
        fit = read.fit;
        formed = formed;
        bytes = bytes;
        offset_is = gate_is;
        none_follows = λ other good batch.
            let is = (sized_one body other more.rest (batch.gate ∷ batch.rest) (last_fits bodies body new image more) batch.fits batch.bytes_are).0 in
            bad (subst (λ (b : List ℕ). form (grown (log_of old bodies) b)) (sym is) good);
      }),
    )

-- a crash leaves what was read
pub settles : (log : GatedLog) (file : FileId) (disk : Disk) (bodies : Bodies) → disk.honest → Synced file disk → (log_id log).file ≡ file → LogHolds log disk.seen bodies → Settled (LogHolds log) disk bodies
settles log file disk bodies honest synced file_is holds = record {
  honest = honest;
  now = holds;
  left = λ c may. holds_local_lem log disk.seen c bodies (λ f own. subst (λ (k : FileId). c k ≡ disk.seen k) (sym (own ∙ file_is)) (synced c may)) holds;
}
