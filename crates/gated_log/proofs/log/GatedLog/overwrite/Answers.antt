use Rattle.std.proofs.Common.{◌≡◌, ℕ, ◌≤◌, List, ◌++◌, length, take, drop, refl, sym, ◌∙◌, ap, subst, arith, rules}
use Rattle.disk.specs.Disk.{Overwritten}
use Rattle.disk.specs.Areas.{folder_of, both_within}
use Rattle.gated_log.specs.Labels.{IsLabel, label_fits}
use Rattle.gated_log.specs.Batches.{opened, IsLog}
use Rattle.gated_log.proofs.Alone.{alone}
use Rattle.gated_log.proofs.Overwriting.{laid, laid_bytes, length-laid, whole_of, laid_out, gate_written, first_within, both_within as all_within}
use Rattle.gated_log.proofs.log.GatedLog.overwrite.Goals as goal

pub returns-in_err-persist-clause-within : goal.returns-in_err-persist-clause-within
returns-in_err-persist-clause-within g c = λ bodies is honest synced shut.
    let label = c.args.label in
    let folder = folder_of c.args.file in
    let good : IsLabel folder label = label_fits folder label (omega arith) (omega arith) (omega arith) c.requires.label in
    first_within folder label bodies good is.fit c.args.file _ synced shut _ _ (c.persist.ensures.others honest) (c.persist.ensures.any_moment honest)

pub returns-in_err-persist-clause-others : goal.returns-in_err-persist-clause-others
returns-in_err-persist-clause-others g c = λ honest. alone _ _ _ _ (c.persist.ensures.others honest) (c.persist.ensures.any_moment honest)

pub returns-in_err-open_gate-clause-within : goal.returns-in_err-open_gate-clause-within
returns-in_err-open_gate-clause-within g c = λ bodies is honest synced shut.
    let label = c.args.label in
    let folder = folder_of c.args.file in
    let good : IsLabel folder label = label_fits folder label (omega arith) (omega arith) (omega arith) c.requires.label in
    let d0 = g.S.Shelf.disk c.args.shelf.now in
    let honest1 = c.persist.ensures.kept.honest honest in
    let room = c.args.prepared.bytes in
    let kept : take room.len (c.put_header.new.bytes ++ drop (length c.put_header.new.bytes) room.items) ≡ c.put_header.new.bytes
    = whole_of room.len c.put_header.new.bytes room.items (c.put_header.auto.bytes ∙ c.deref_mut.ensures.len) (search rules) in
    let bytes : c.as_slice.result.now ≡ laid folder label bodies = c.as_slice.ensures.value ∙ kept ∙ laid_bytes c.args.prepared.folder folder label bodies _ _ _ c.requires.folder c.put_header.ensures c.deref_mut.ensures.value is.bytes in
    let behind : 1 ≤ length (d0.seen c.args.file) = omega (arith, ap length shut.bytes) in
    let over = subst (λ (b : List ℕ). Overwritten 1 b (d0.seen c.args.file) ((g.S.Shelf.disk c.persist.new.shelf).seen c.args.file)) bytes (c.in_ok-persist.ensures.written honest behind).there in
    let laid = laid_out folder label bodies good is.fit _ _ shut over in
    all_within folder label bodies good is.fit c.args.file d0 synced shut _ _ _ (c.persist.ensures.others honest) (c.persist.ensures.any_moment honest) laid
    (c.in_ok-persist.ensures.synced honest) (c.open_gate.ensures.others honest1) (c.open_gate.ensures.any_moment honest1)

pub returns-in_err-open_gate-clause-others : goal.returns-in_err-open_gate-clause-others
returns-in_err-open_gate-clause-others g c = λ honest.
    let honest1 = c.persist.ensures.kept.honest honest in
    both_within _ _ _ (λ i. Unit {0}) _ _ _ (λ i p. p) (λ i p. p) (alone _ _ _ _ (c.persist.ensures.others honest) (c.persist.ensures.any_moment honest)) (alone _ _ _ _ (c.open_gate.ensures.others honest1) (c.open_gate.ensures.any_moment honest1))

pub returns-clause-written : goal.returns-clause-written
returns-clause-written g c = λ bodies is honest shut.
    let label = c.args.label in
    let folder = folder_of c.args.file in
    let good : IsLabel folder label = label_fits folder label (omega arith) (omega arith) (omega arith) c.requires.label in
    let file = c.args.file in
    let d0 = g.S.Shelf.disk c.args.shelf.now in
    let d1 = g.S.Shelf.disk c.persist.new.shelf in
    let d2 = g.S.Shelf.disk c.open_gate.new.shelf in
    let honest1 = c.persist.ensures.kept.honest honest in
    let room = c.args.prepared.bytes in
    let kept : take room.len (c.put_header.new.bytes ++ drop (length c.put_header.new.bytes) room.items) ≡ c.put_header.new.bytes
    = whole_of room.len c.put_header.new.bytes room.items (c.put_header.auto.bytes ∙ c.deref_mut.ensures.len) (search rules) in
    let put : c.put_header.new.bytes ≡ laid folder label bodies = laid_bytes c.args.prepared.folder folder label bodies _ _ _ c.requires.folder c.put_header.ensures c.deref_mut.ensures.value is.bytes in
    let bytes : c.as_slice.result.now ≡ laid folder label bodies = c.as_slice.ensures.value ∙ kept ∙ put in
    let behind : 1 ≤ length (d0.seen file) = omega (arith, ap length shut.bytes) in
    let over = subst (λ (b : List ℕ). Overwritten 1 b (d0.seen file) (d1.seen file)) bytes (c.in_ok-persist.ensures.written honest behind).there in
    let laid_is = laid_out folder label bodies good is.fit _ _ shut over in
    let log : IsLog folder label bodies (d2.seen file) = gate_written folder label bodies good is.fit (d1.seen file) (d2.seen file) laid_is (c.in_ok-open_gate.ensures.written honest1 (omega arith)).there in
    let end : c.len.result ≡ length (opened folder label bodies) = omega (arith, c.len.ensures, c.put_header.auto.bytes, c.deref_mut.ensures.len, ap length put, length-laid folder label bodies) in
    record {
      honest = c.open_gate.ensures.kept.honest honest1;
      now = record { works = refl; is = log; end = end; count = is.count };
      left = λ i may. record { works = refl; is = subst (λ (b : List ℕ). IsLog folder label bodies b) (sym (c.in_ok-open_gate.ensures.synced honest1 i may)) log; end = end; count = is.count };
    }

pub returns-clause-within : goal.returns-clause-within
returns-clause-within g c = λ bodies is honest synced shut.
    let label = c.args.label in
    let folder = folder_of c.args.file in
    let good : IsLabel folder label = label_fits folder label (omega arith) (omega arith) (omega arith) c.requires.label in
    let d0 = g.S.Shelf.disk c.args.shelf.now in
    let honest1 = c.persist.ensures.kept.honest honest in
    let room = c.args.prepared.bytes in
    let kept : take room.len (c.put_header.new.bytes ++ drop (length c.put_header.new.bytes) room.items) ≡ c.put_header.new.bytes
    = whole_of room.len c.put_header.new.bytes room.items (c.put_header.auto.bytes ∙ c.deref_mut.ensures.len) (search rules) in
    let bytes : c.as_slice.result.now ≡ laid folder label bodies = c.as_slice.ensures.value ∙ kept ∙ laid_bytes c.args.prepared.folder folder label bodies _ _ _ c.requires.folder c.put_header.ensures c.deref_mut.ensures.value is.bytes in
    let behind : 1 ≤ length (d0.seen c.args.file) = omega (arith, ap length shut.bytes) in
    let over = subst (λ (b : List ℕ). Overwritten 1 b (d0.seen c.args.file) ((g.S.Shelf.disk c.persist.new.shelf).seen c.args.file)) bytes (c.in_ok-persist.ensures.written honest behind).there in
    let laid = laid_out folder label bodies good is.fit _ _ shut over in
    all_within folder label bodies good is.fit c.args.file d0 synced shut _ _ _ (c.persist.ensures.others honest) (c.persist.ensures.any_moment honest) laid
    (c.in_ok-persist.ensures.synced honest) (c.open_gate.ensures.others honest1) (c.open_gate.ensures.any_moment honest1)

pub returns-clause-others : goal.returns-clause-others
returns-clause-others g c = λ honest.
    let honest1 = c.persist.ensures.kept.honest honest in
    both_within _ _ _ (λ i. Unit {0}) _ _ _ (λ i p. p) (λ i p. p) (alone _ _ _ _ (c.persist.ensures.others honest) (c.persist.ensures.any_moment honest)) (alone _ _ _ _ (c.open_gate.ensures.others honest1) (c.open_gate.ensures.any_moment honest1))
