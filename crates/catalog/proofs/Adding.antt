-- A name more.
use Rattle.std.proofs.Common.{◌≡◌, ⊎_elim, inl, inr, ℕ, ◌<◌, true, false, List, [], ◌∷◌, ◌++◌, length, refl, sym, ◌∙◌, ap, subst, arith, Result, IsErrAnd}
use Rattle.disk.specs.declared.file_id.FileId.{FileId}
use Rattle.disk.specs.declared.file_id.Folder.TheVariants.{Two}
use Rattle.disk.specs.Disk.{Disk, Image}
use Rattle.disk.specs.Areas.{Within, catalog_file, weaken_within, stays_within}
use Rattle.disk.specs.Contents.{Settled, InDoubt, Appends, BeforeOrAfter, at_err, StaysSo}
use Rattle.gated_log.specs.declared.log.GatedLog.{GatedLog}
use Rattle.gated_log.specs.declared.log_id.LogId.{LogId}
use Rattle.gated_log.specs.Labels.{plain}
use Rattle.gated_log.specs.Batches.{IsLog}
use Rattle.gated_log.specs.declared.prepare_error.PrepareError.{PrepareError}
use Rattle.gated_log.specs.declared.prepare_error.PrepareError.TheVariants as prepare
use Rattle.gated_log.specs.declared.refusal.Refusal.TheVariants as refusal
use Rattle.gated_log.specs.Refusals.{unprepared}
use Rattle.gated_log.specs.Content.{held_content}
use Rattle.gated_log.specs.Logs.{LogHolds, StandsFor as LogStands, log_id, log_content}
use Rattle.names.specs.Names.{is_topic_name}
use Rattle.names.proofs.Parts.{name_is_short}
use Rattle.catalog.specs.declared.catalog.Catalog.{Catalog}
use Rattle.catalog.specs.Names.{Names, AreNames, IsPerLedger, has_name}
use Rattle.catalog.specs.Growing.{IsNext, names_more}
use Rattle.catalog.specs.Laws.{holds_stands, own_log}
use Rattle.catalog.specs.Catalogs.{Own, Holds, StandsFor, content, remembered, per_ledger}

-- the body that was built is the name
pub body_is : (builder grown body text name : List ℕ) → builder ≡ [] → grown ≡ builder ++ body → body ≡ text → text ≡ name → grown ≡ name
body_is builder grown body text name none grows is same = grows ∙ ap (λ (b : List ℕ). b ++ body) none ∙ is ∙ same

-- a text that is a topic's name, of which there is none yet, where there is room
pub next_name : (names : Names) (text name : List ℕ) → text ≡ name → is_topic_name text ≡ true → has_name names name ≡ false → length names < 64 → IsNext names name
next_name names text name same good new room = record { room = room; topic = ap is_topic_name (sym same) ∙ good; new = new }

-- a name is never too large for a batch
pub no_memory : (error : PrepareError) (names : Names) (name body : List ℕ) → IsNext names name → body ≡ name → (error ≡ prepare.TooLarge → 33554432 < length body) → unprepared error ≡ refusal.NoMemory
no_memory prepare.TooLarge names name body next is large = absurd (omega (arith, large refl, ap length is, name_is_short name next.topic))
no_memory prepare.NoMemory names name body next is large = refl

-- what stands of the catalog behind an append
pub names_are : (old : Catalog) (keys : Names) (name : List ℕ) → IsNext (remembered old) name → keys ≡ remembered old ++ name ∷ [] → AreNames keys
names_are old keys name next grows = subst AreNames (sym grows) (names_more (remembered old) name old.are next)

pub label_is : (old : Catalog) (log : GatedLog) → log_id log ≡ log_id old.log → (log_id log).label ≡ plain (log_id log).label.number
label_is old log id = subst (λ (i : LogId). i.label ≡ plain i.label.number) (sym id) old.alone

pub ledgers_are : (old : Catalog) (log : GatedLog) → log_id log ≡ log_id old.log → IsPerLedger (log_id log).label.number
ledgers_are old log id = subst (λ (i : LogId). IsPerLedger i.label.number) (sym id) old.ledgers

pub file_is : (old : Catalog) (log : GatedLog) → log_id log ≡ log_id old.log → (log_id log).file ≡ catalog_file
file_is old log id = ap (λ (i : LogId). i.file) id ∙ old.file

-- it may follow the names that the catalog holds, too
held : (old : Catalog) (names : Names) (name : List ℕ) → remembered old ≡ names → IsNext (remembered old) name → IsNext names name
held old names name same is = subst (λ (l : Names). IsNext l name) same is

held_names : (old : Catalog) (names : Names) → remembered old ≡ names → AreNames names
held_names old names same = subst AreNames same old.are

pub log_settled : (old : Catalog) (disk : Disk) (names : Names) → Settled (Holds old) disk names → Settled (LogHolds old.log) disk names
log_settled old disk names s = record { honest = s.honest; now = s.now.log; left = λ c may. (s.left c may).log }

pub added : (old new : Catalog) (name : List ℕ) (d0 d1 : Disk) (names : Names) → remembered new ≡ remembered old ++ name ∷ [] → Settled (Holds old) d0 names → Settled (LogHolds new.log) d1 (names ++ name ∷ []) → Settled (Holds new) d1 (names ++ name ∷ [])
added old new name d0 d1 names keys s log =
    let same = keys ∙ ap (λ (l : Names). l ++ name ∷ []) s.now.same in
    record { honest = log.honest; now = record { log = log.now; same = same }; left = λ c may. record { log = log.left c may; same = same } }

-- without the name, or with it
either : (old : Catalog) (id : LogId) (c : Image) (names : Names) (name : List ℕ) → id ≡ log_id old.log → remembered old ≡ names → IsNext (remembered old) name
    → BeforeOrAfter (LogStands id) names (names ++ name ∷ []) c → BeforeOrAfter (StandsFor (per_ledger old)) names (names ++ name ∷ []) c
either old id c names name same kept next which =
    let are = held_names old names kept in
    ⊎_elim
    (λ is. inl (record { log = in_file names is; ledgers = old.ledgers; names_are = are }))
    (λ is. inr (record { log = in_file (names ++ name ∷ []) is; ledgers = old.ledgers; names_are = names_more names name are (held old names name kept next) }))
    which
  where
    in_file : (bodies : Names) → LogStands id c bodies → IsLog Two (plain (per_ledger old)) bodies (c catalog_file)
    in_file bodies is = own_log old c bodies (subst (λ (i : LogId). LogStands i c bodies) same is)

pub in_doubt : (old : Catalog) (log log' : GatedLog) (name : List ℕ) (d0 d1 : Disk) (names : Names) → IsNext (remembered old) name → log_id log ≡ log_id old.log → Settled (Holds old) d0 names
    → InDoubt (log_content log') (LogStands (log_id log)) d1 names (names ++ name ∷ []) → InDoubt (log_content log') (StandsFor (per_ledger old)) d1 names (names ++ name ∷ [])
in_doubt old log log' name d0 d1 names next id s doubt = record {
  honest = doubt.honest;
  now = doubt.now;
  same = doubt.same;
  left = λ c may. either old (log_id log) c names name id s.now.same next (doubt.left c may);
}

pub within : (old : Catalog) (log : GatedLog) (name : List ℕ) (d0 d1 : Disk) (names : Names) → IsNext (remembered old) name → log_id log ≡ log_id old.log → Settled (Holds old) d0 names
    → Within (λ f. f ≡ (log_id log).file) (BeforeOrAfter (LogStands (log_id log)) names (names ++ name ∷ [])) d0 d1 → Within Own (BeforeOrAfter (StandsFor (per_ledger old)) names (names ++ name ∷ [])) d0 d1
within old log name d0 d1 names next id s w =
    weaken_within Own (BeforeOrAfter (LogStands (log_id log)) names (names ++ name ∷ [])) (BeforeOrAfter (StandsFor (per_ledger old)) names (names ++ name ∷ [])) d0 d1
    (λ c which. either old (log_id log) c names name id s.now.same next which)
    (subst (λ (file : FileId). Within (λ f. f ≡ file) (BeforeOrAfter (LogStands (log_id log)) names (names ++ name ∷ [])) d0 d1) (ap (λ (i : LogId). i.file) id ∙ old.file) w)

-- an append that failed before the device was asked
pub unasked : {T E : Type 0} {works : Disk → Names → Type 0} (result : Result T E) (Q : E → Type 0) → IsErrAnd result Q → (old : Catalog) (d : Disk) (names new : Names) → Settled (Holds old) d names
    → Appends result works (content old) Own (StandsFor (per_ledger old)) d d names new
unasked result Q is old d names new s =
    at_err result Q is
    (record {
      honest = s.honest;
      now = held_content old.log d.seen names s.now.log;
      same = λ c may. held_content old.log c names (s.left c may).log;
      left = λ c may. inl (holds_stands old c names (s.left c may));
    })
    (stays_within Own (BeforeOrAfter (StandsFor (per_ledger old)) names new) d (λ c may. inl (holds_stands old c names (s.left c may))))

pub others : (old : Catalog) (log : GatedLog) (d0 d1 : Disk) → log_id log ≡ log_id old.log → Within (λ f. f ≡ (log_id log).file) (λ c. Unit {0}) d0 d1 → Within Own (λ c. Unit {0}) d0 d1
others old log d0 d1 id w = subst (λ (file : FileId). Within (λ f. f ≡ file) (λ c. Unit {0}) d0 d1) (ap (λ (i : LogId). i.file) id ∙ old.file) w

-- a call that changes the room for names alone
pub stays : (old new : Catalog) → new.log ≡ old.log → remembered new ≡ remembered old → StaysSo (Holds old) (Holds new) (content old) (content new)
stays old new log keys = record {
  holds_still = λ c names holds. record { log = subst (λ (l : GatedLog). LogHolds l c names) (sym log) holds.log; same = keys ∙ holds.same };
  same = λ c. ap (λ (l : GatedLog). log_content l c) log;
}
