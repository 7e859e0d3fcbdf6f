use Rattle.std.proofs.Common.{take, map}
use Rattle.nesl_syntax_tree.specs.Views.{binders_in}
use Rattle.nesl_infer_rules.specs.Steps.{AddsNames, world_at}
use Rattle.nesl_infer_rules.specs.Typing.{PatternsAdd}
use Rattle.nesl_infer_rules.proofs.each.bind_patterns.Given as goal

abbrev pub invariant-loop-place : goal.invariant-loop-place
invariant-loop-place g l =
    AddsNames l.initial.state l.state l.initial.locals l.locals (λ s of ns. PatternsAdd (world_at l.outer.context.now l.outer.own s of) (binders_in (take l.place l.bindings)) (map s (take l.place l.items)) ns)
