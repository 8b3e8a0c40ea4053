-- The files of a topic, and calls that work on some files alone.
use Rattle.std.proofs.Common.{◌≡◌, ◌≢◌, inl, ℕ, sym, ◌∙◌, refl, ap, arith}
use Rattle.disk.specs.declared.file_id.Folder.{Folder}
use Rattle.disk.specs.declared.file_id.Folder.TheVariants.{Two}
use Rattle.disk.specs.declared.file_id.TopicId.{TopicId}
use Rattle.disk.specs.declared.file_id.FileId.{FileId}
use Rattle.disk.specs.declared.file_id.FileId.TheVariants.{Catalog, Segment, Slot}
use Rattle.disk.specs.Disk.{Disk, Image, Leaves, Outcome}
use Rattle.disk.specs.Moments.{joins, weaken}

-- some of the files
abbrev pub Area : Type 1
Area = FileId → Type 0

-- the version of the folder that a file is of
abbrev pub folder_of : FileId → Folder
folder_of (Catalog folder) = folder
folder_of (Segment topic number) = topic.folder
folder_of (Slot topic slot) = topic.folder

-- all files of this version
abbrev pub InFolder : Folder → Area
InFolder folder f = folder_of f ≡ folder

-- the files of the topic
abbrev pub FilesOf : TopicId → FileId → Type 0
FilesOf t (Catalog folder) = ⊥
FilesOf t (Segment topic number) = topic ≡ t
FilesOf t (Slot topic slot) = topic ≡ t

-- the topic of this number in a folder that is served
abbrev pub served : ℕ → TopicId
served number = record { folder = Two; number = number }

-- the list of topics in a folder that is served
abbrev pub catalog_file : FileId
catalog_file = Catalog Two

-- the files of the topic of this number in a folder that is served
abbrev pub OfTopic : ℕ → FileId → Type 0
OfTopic t = FilesOf (served t)

-- both have the same in each file of the area
abbrev pub Agree : Area → Image → Image → Type 0
Agree area a b = (f : FileId) → area f → b f ≡ a f

-- A call that works on these files alone: every other file reads as before, and a crash at any moment
-- leaves P of these files, and of all others together what a crash of old leaves.
pub record Within (area : Area) (P : Image → Type 0) (old new : Disk) : Type 0 where
  pub seen : Agree (λ f. ¬ area f) old.seen new.seen
  pub any_moment : Leaves (Outcome old area P) old new

-- no file is of two topics
pub apart : (t k : ℕ) → t ≢ k → (f : FileId) → OfTopic k f → ¬ OfTopic t f
apart t k differ (Catalog folder) own = λ other. own
apart t k differ (Segment topic number) own = λ other. differ (ap (λ (id : TopicId). id.number) (sym other ∙ own))
apart t k differ (Slot topic slot) own = λ other. differ (ap (λ (id : TopicId). id.number) (sym other ∙ own))

-- a device that nothing was asked of
pub stays_within : (area : Area) (P : Image → Type 0) (d : Disk) → ((c : Image) → d.may_leave c → P c) → Within area P d d
stays_within area P d here = record {
  seen = λ f other. refl;
  any_moment = record { later = omega arith; now = λ c left. record { from = c; left = left; elsewhere = λ f other. refl; own = here c left }; since = λ t c le left. inl left };
}

-- one call after another on the same files
pub both_within : (area : Area) (P Q R : Image → Type 0) (old mid new : Disk) → ((c : Image) → P c → R c) → ((c : Image) → Q c → R c)
    → Within area P old mid → Within area Q mid new → Within area R old new
both_within area P Q R old mid new p q first second = record {
  seen = λ f other. second.seen f other ∙ first.seen f other;
  any_moment = joins (Outcome old area P) (Outcome mid area Q) (Outcome old area R) old mid new first.any_moment second.any_moment
      (λ c out. record { from = out.from; left = out.left; elsewhere = out.elsewhere; own = p c out.own })
      (λ c out. let was = first.any_moment.now out.from out.left in record { from = was.from; left = was.left; elsewhere = λ f other. out.elsewhere f other ∙ was.elsewhere f other; own = q c out.own });
}

-- what it leaves of its own files
pub own_files : (area : Area) (P : Image → Type 0) (old new : Disk) → Within area P old new → Leaves P old new
own_files area P old new w = weaken (Outcome old area P) P old new w.any_moment (λ c out. out.own)

-- what it leaves of its own files, said in other words
pub weaken_within : (area : Area) (P Q : Image → Type 0) (old new : Disk) → ((c : Image) → P c → Q c) → Within area P old new → Within area Q old new
weaken_within area P Q old new q w = record {
  seen = w.seen;
  any_moment = weaken (Outcome old area P) (Outcome old area Q) old new w.any_moment (λ c out. record { from = out.from; left = out.left; elsewhere = out.elsewhere; own = q c out.own });
}

-- a part of a call's files: what is left of them all follows from what is left of the part and of the rest
pub widen_within : (small big : Area) (P Q : Image → Type 0) (old new : Disk) → ((f : FileId) → small f → big f) → ((c : Image) → Outcome old small P c → Q c)
    → Within small P old new → Within big Q old new
widen_within small big P Q old new part q w = record {
  seen = λ f other. w.seen f (λ own. other (part f own));
  any_moment = weaken (Outcome old small P) (Outcome old big Q) old new w.any_moment
      (λ c out. record { from = out.from; left = out.left; elsewhere = λ f other. out.elsewhere f (λ own. other (part f own)); own = q c out });
}

-- a device that only read: all is left as before
pub reads_within : (area : Area) (P : Image → Type 0) (old new : Disk) → new.seen ≡ old.seen → Leaves old.may_leave old new → ((c : Image) → old.may_leave c → P c) → Within area P old new
reads_within area P old new same leaves here = record {
  seen = λ f other. ap (λ (i : Image). i f) same;
  any_moment = weaken _ _ old new leaves (λ c left. record { from = c; left = left; elsewhere = λ f other. refl; own = here c left });
}
