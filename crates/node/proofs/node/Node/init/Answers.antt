use Rattle.std.proofs.Common.{[], refl, subst, arith}
use Rattle.std.proofs.lemmas.Option.{none-some}
use Rattle.disk.specs.declared.file_id.FileId.TheVariants as file_id
use Rattle.disk.specs.declared.file_id.Folder.TheVariants.{One}
use Rattle.catalog.specs.Catalogs.{StandsFor as NamesStand}
use Rattle.catalog.specs.Laws.{holds_stands}
use Rattle.node.specs.State.{State, fresh_broker}
use Rattle.node.specs.Passing.{newest_moved, old_beside}
use Rattle.node.proofs.node.Node.init.Goals as goal

pub returns-clause-made : goal.returns-clause-made
returns-clause-made g c = λ honest newest url.
    let d = g.S.Shelf.disk c.create.new.shelf in
    let catalog = c.in_ok-_catalog._catalog in
    let hold = c.in_ok-_catalog.ensures.created honest in
    let n = c.args.entries_per_ledger.count in
    let state : State = record { broker = fresh_broker n url; stages = []; sessions = []; used = 0; faults = d.faults } in (
      state,
      refl,
      record {
        honest = hold.honest;
        left = λ files may. record {
          formed = record { named = refl; ledgers = λ number. refl };
          newest =
              let out = (c.create.ensures.others honest).any_moment.now files may in
              newest_moved out.from files (out.elsewhere (file_id.Catalog One) old_beside) (newest out.from out.left);
          names = subst (λ n. NamesStand n files []) c.in_ok-_catalog.ensures.per_ledger (holds_stands catalog files [] (hold.left files may));
          topics = λ number t is. absurd (none-some t is);
        };
        faults = omega arith;
      },
    )
