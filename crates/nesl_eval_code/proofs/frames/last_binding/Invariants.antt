use Rattle.std.proofs.Common.{◌≡◌, ◌<◌, take, length, IfSome}
use Rattle.nesl_syntax_tree.specs.Views.{binders_in}
use Rattle.nesl_eval_code.specs.Means.{last_binding, patterns}
use Rattle.nesl_eval_code.proofs.frames.last_binding.Given as goal

abbrev pub invariant-loop-index : goal.invariant-loop-index
invariant-loop-index l =
    (l.last ≡ last_binding l.name (patterns (binders_in (take l.index l.bindings))))
    × IfSome l.last (λ i. i < length l.bindings)
