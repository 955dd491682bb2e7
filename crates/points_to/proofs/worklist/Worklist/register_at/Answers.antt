use Rattle.std.proofs.Common.{[], ◌∷◌, refl, sym, subst}
use Rattle.points_to.specs.Held.{In}
use Rattle.points_to.specs.Waiting.{readers_of, RegistersReader}
use Rattle.points_to.specs.Worklist.{RegistersAt}
use Rattle.seq.proofs.Member.{one_in}
use Rattle.points_to.proofs.Sets.{on_ok}
use Rattle.points_to.proofs.worklist.Worklist.register_at.Goals as goal

pub returns : goal.returns
returns c =
    let old = c.args.self.now in
    let new = record old { readers = c.register.new.self } in
    on_ok c.register.result
    (RegistersReader (readers_of old.readers) (readers_of new.readers) c.args.place c.args.n)
    (RegistersAt old new c.args.n (c.args.place ∷ []))
    (λ r. record {
      same_facts = refl;
      same_pending = refl;
      kept = r.kept;
      put
          = λ q h. subst (λ q. In c.args.n (readers_of new.readers q)) (sym (one_in c.args.place h))
          r.put;
    }) c.register.ensures
