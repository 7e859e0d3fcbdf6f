-- The frames that a scope is.
use Rattle.std.specs.Prelude.{ℕ, ◌-◌, List, [], ◌∷◌, map, length, take, drop}
use Rattle.nesl_values.specs.View.{tree_of}
use Rattle.nesl_eval_meaning.specs.Names.{Value}
use Rattle.nesl_eval_code.specs.Frames.{Frames, frame}
use Rattle.nesl_eval_nodes.specs.declared.scope.Scope.{Scope}

-- values that lie end to end, as frames of these sizes, the newest first: its values are the last ones
abbrev pub cut : List ℕ → List Value → Frames
cut [] vs = []
cut (k ∷ ks) vs = frame (drop (length vs - k) vs) ∷ cut ks (take (length vs - k) vs)

-- the frames of a scope
abbrev pub frames_of : {A : Type 0} → Scope A → Frames
frames_of s = cut s.sizes.now (map tree_of s.values.now)
