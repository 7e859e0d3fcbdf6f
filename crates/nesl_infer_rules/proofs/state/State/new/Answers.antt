use Rattle.std.proofs.Common.{refl, sym, subst}
use Rattle.std.proofs.lemmas.List.Elements.{All-nil}
use Rattle.nesl_types.specs.Class.{IsIn}
use Rattle.nesl_unify.specs.declared.narrow.Member.{Member}
use Rattle.nesl_unify.specs.Members.{IsInAll}
use Rattle.nesl_infer_rules.proofs.state.State.new.Goals as goal

pub returns : goal.returns
returns c = λ s of.
    record {
      whole = refl;
      solves = record {
        equal = c.new.ensures.holds s;
        within = subst (IsInAll s of) (sym c.new.ensures.members) (All-nil (λ (m : Member). IsIn of m.class (s m.variable)));
      };
    }
