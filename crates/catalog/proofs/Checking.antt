-- The header of a list of topics is looked at.
use Rattle.std.proofs.Common.{◌≡◌, inl, inr, ℕ, List, [], ◌++◌, refl, sym, ◌∙◌, ap, subst}
use Rattle.std.proofs.lemmas.List.{append-nil}
use Rattle.disk.specs.declared.file_id.FileId.{FileId}
use Rattle.disk.specs.declared.file_id.Folder.TheVariants.{Two}
use Rattle.disk.specs.Disk.{Image}
use Rattle.disk.specs.Areas.{catalog_file, folder_of}
use Rattle.gated_log.specs.declared.label.Label.{Label}
use Rattle.gated_log.specs.declared.log_id.LogId.{LogId}
use Rattle.gated_log.specs.declared.reader.LogReader.{LogReader}
use Rattle.gated_log.specs.declared.refusal.Refusal.{Refusal}
use Rattle.gated_log.specs.declared.refusal.Refusal.TheVariants.{Damaged}
use Rattle.gated_log.specs.Labels.{IsLabel, header}
use Rattle.gated_log.specs.Batches.{opened}
use Rattle.gated_log.specs.Headers.{IsOpen}
use Rattle.gated_log.specs.Reading.{HasRead, IsHeaderRefusal, reader_id}
use Rattle.catalog.specs.Catalogs.{IsCatalogLabel}
use Rattle.catalog.specs.Folded.{IsHeaderFault}

-- what the head is refused for
pub refused : (file : FileId) (old mid : Image) (e e' : Refusal) → file ≡ catalog_file → mid ≡ old → e ≡ e' → IsHeaderRefusal file (mid file) e' → IsHeaderFault (old catalog_file) e
refused file old mid e e' own same told is =
    inl (subst (λ (r : Refusal). IsHeaderRefusal catalog_file (old catalog_file) r) (sym told) (subst (λ (i : Image). IsHeaderRefusal catalog_file (i catalog_file) e') same (subst (λ (f : FileId). IsHeaderRefusal f (mid f) e') own is)))

-- a reader before its first gate has read an open header
pub read_open : (reader : LogReader) (id : LogId) (old mid : Image) → id ≡ reader_id reader → (reader_id reader).file ≡ catalog_file → mid ≡ old → HasRead reader mid [] → IsOpen Two id.label (old catalog_file)
unfolding opened
read_open reader id old mid same own seen has =
    let label = reader.id.label in
    let there : IsOpen Two label (mid catalog_file) = record {
      rest = has.rest;
      in_range = subst (λ (f : FileId). IsLabel (folder_of f) label) own has.in_range;
      bytes = subst (λ (f : FileId). mid f ≡ opened (folder_of f) label [] ++ has.rest) own has.bytes ∙ ap (λ (l : List ℕ). l ++ has.rest) (append-nil (header Two 1 label));
    } in
    subst (λ (i : LogId). IsOpen Two i.label (old catalog_file)) (sym same) (subst (λ (i : Image). IsOpen Two label (i catalog_file)) seen there)

pub bad_label : (label : Label) (file : List ℕ) → IsOpen Two label file → (¬ IsCatalogLabel label) → IsHeaderFault file (Damaged catalog_file 0)
bad_label label file is bad = inr ((label, is, bad), refl)
