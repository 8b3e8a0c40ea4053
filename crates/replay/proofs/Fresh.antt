-- On a device without files no folder of version 1 counts, whatever crash comes.
use Rattle.std.proofs.Common.{◌≡◌, ◌≤◌, length, subst, arith}
use Rattle.disk.specs.declared.file_id.FileId.{FileId}
use Rattle.disk.specs.declared.file_id.FileId.TheVariants.{Catalog}
use Rattle.disk.specs.declared.file_id.Folder.TheVariants.{One}
use Rattle.disk.specs.Disk.{Image}
use Rattle.disk_mem.specs.declared.shelf.MemShelf.{MemShelf}
use Rattle.disk_mem.specs.Device.{states, leaves}
use Rattle.disk_mem.specs.FileState.{FileState, MayLeave, empty}
use Rattle.catalog.specs.Catalogs.{OldCounts}

pub none_counts : (shelf : MemShelf) → ((f : FileId) → states shelf f ≡ empty) → (c : Image) → leaves shelf.files c → ¬ OldCounts c
none_counts shelf none c left = λ old.
    let at : MayLeave empty (c (Catalog One)) = subst (λ (s : FileState). MayLeave s (c (Catalog One))) (none (Catalog One)) (left (Catalog One)) in
    let long : 16 ≤ length (c (Catalog One)) = old.whole in
    let bad : ⊥ = omega (arith, at.at_most, long) in bad
