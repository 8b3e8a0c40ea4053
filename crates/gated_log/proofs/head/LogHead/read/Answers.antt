use Rattle.std.proofs.Common.{◌≡◌, ◌≤◌, ℕ, length, refl, sym, ◌∙◌, ap, subst}
use Rattle.disk.specs.Disk.{Image}
use Rattle.disk.specs.declared.file_id.Folder.{Folder}
use Rattle.gated_log.specs.Headers.{IsAtHeader, number_in}
use Rattle.gated_log.specs.Labels.{header_size}
use Rattle.gated_log.proofs.Further.{synced_over}
use Rattle.gated_log.proofs.Heads.{head_read}
use Rattle.gated_log.proofs.head.LogHead.read.Goals as goal

pub returns-clause-head : goal.returns-clause-head
returns-clause-head g c = λ honest.
    let file = c.args.file in
    let d1 = g.S.Shelf.disk c.sync.new.self in
    let d2 = g.S.Shelf.disk c.length.new.self in
    let d3 = g.S.Shelf.disk c.read.new.self in
    let honest1 = c.sync.ensures.kept.honest honest in
    let honest2 = c.length.ensures.kept.honest honest1 in
    let same2 : d2.seen ≡ d1.seen = c.length.ensures.seen honest1 in
    let same3 : d3.seen ≡ d2.seen = c.read.ensures.seen honest2 in
    let folder = c.folder_of-folder.result in
    let begins = head_read folder _ c.in_ok-count.count _ (d2.seen file) _ _ refl c.header_size.ensures (c.in_ok-count.ensures.bytes honest2) in
    let size : c.in_ok-size.size ≡ length (d2.seen file) = c.in_ok-size.ensures.length honest1 ∙ ap (λ (i : Image). length (i file)) (sym same2) in
    record {
      is = record {
        size_is = size ∙ ap (λ (i : Image). length (i file)) (sym same3);
        header_is = subst (λ (f : Folder). IsAtHeader f (d3.seen file) c.at_header.result) c.folder_of-folder.ensures (subst (λ (i : Image). IsAtHeader folder (i file) c.at_header.result) (sym same3) (c.at_header.ensures (d2.seen file) begins));
        number_is = λ long. c.number_in.ensures (d2.seen file) begins (subst (λ (n : ℕ). header_size folder ≤ n) size (subst (λ (f : Folder). header_size f ≤ c.in_ok-size.size) (sym c.folder_of-folder.ensures) long)) ∙ ap (λ (i : Image). number_in (i file)) (sym same3);
      };
      synced = synced_over file d2 d3 (synced_over file d1 d2 (c.in_ok-sync.ensures.synced honest) same2 (c.length.ensures.time honest1)) same3 (c.read.ensures.time honest2);
    }
