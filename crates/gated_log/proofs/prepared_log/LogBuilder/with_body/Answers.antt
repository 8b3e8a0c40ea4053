use Rattle.std.proofs.Common.{◌-◌, ◌≤◌, ℕ, List, [], ◌∷◌, length, arith, rules, length-append}
use Rattle.gated_log.specs.Labels.{header_size}
use Rattle.gated_log.proofs.Building.{batch_more}
use Rattle.gated_log.proofs.Steps.{all_push}
use Rattle.gated_log.proofs.prepared_log.LogBuilder.with_body.Goals as goal

pub returns-clause-grown : goal.returns-clause-grown
returns-clause-grown c = λ bodies is.
    let body = c.args.body.now in
    let small : length body ≤ 33554432 = omega arith in
    record {
      fit = all_push (λ (b : List ℕ). length b ≤ 33554432) bodies body is.fit small;
      count = omega (arith, is.count, length-append bodies (body ∷ []));
      bytes = batch_more (header_size c.args.self.folder - 1) bodies body c.args.self.bytes.items c.push.new.self.items c.extend_from_slice.new.self.items c.extend_from_slice-2.new.self.items c.to_le_bytes.result
          (search rules) is.bytes c.in_ok-push.ensures.items c.to_le_bytes.ensures c.in_ok-extend_from_slice.ensures.items c.in_ok-extend_from_slice-2.ensures.items;
    }
