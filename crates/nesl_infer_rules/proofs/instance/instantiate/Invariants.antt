use Rattle.std.proofs.Common.{◌≡◌, ◌<◌, length, take, map}
use Rattle.std.specs.Prelude.{All}
use Rattle.nesl_infer_rules.specs.Steps.{Gives, count}
use Rattle.nesl_infer_rules.specs.Instances.{AreOf}
use Rattle.nesl_infer_rules.proofs.instance.instantiate.Given as goal

abbrev pub invariant-loop-class : goal.invariant-loop-class
invariant-loop-class l = record {
  gives : Gives l.initial.state l.state (λ s. map s l.fresh.items) (λ s of us. AreOf of (take l.class-index l.classes) us);
  below : All (λ v. v < count l.state) l.fresh.items;
  len : length l.fresh.items ≡ l.class-index;
}
