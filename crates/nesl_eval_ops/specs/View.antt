-- The blocks that operations are.
use Rattle.std.specs.Prelude.{◌≡◌, ℕ, List, [], ◌∷◌, map, slice_get, Option, Some, None}
use Rattle.std.specs.Global.{Box}
use Rattle.nesl_eval_code.specs.declared.code.Code.{Code}
use Rattle.nesl_eval_code.specs.declared.code.Step.TheVariants as step
use Rattle.nesl_eval_code.specs.Run.{Table, slot_at, function_slot}
use Rattle.nesl_eval_code.specs.Block as block
use Rattle.nesl_eval_code.specs.Block.{Block, finish, push, enter, make, choose, last, call, bind, forget, each}
use Rattle.nesl_eval_code.specs.Block.{filtered}
use Rattle.nesl_eval_code.specs.Flat.{flat}
use Rattle.nesl_eval_code.specs.Flat as laying
use Rattle.nesl_eval_ops.specs.declared.ops.What.{What}
use Rattle.nesl_eval_ops.specs.declared.ops.What.TheVariants.{Number, Truth, Character, Text, Empty, Local, Left, Right}
use Rattle.nesl_eval_ops.specs.declared.ops.What.TheVariants.{Part, Missing, Top, Named}
use Rattle.nesl_eval_ops.specs.declared.ops.Leaf.{Leaf}
use Rattle.nesl_eval_ops.specs.declared.ops.Two.{Two}
use Rattle.nesl_eval_ops.specs.declared.ops.Two.TheVariants as two
use Rattle.nesl_eval_ops.specs.declared.ops.Many.{Many}
use Rattle.nesl_eval_ops.specs.declared.ops.Many.TheVariants as many
use Rattle.nesl_eval_ops.specs.declared.ops.Callee.{Callee}
use Rattle.nesl_eval_ops.specs.declared.ops.Callee.TheVariants as callee
use Rattle.nesl_eval_ops.specs.declared.ops.Body.{Body}
use Rattle.nesl_eval_ops.specs.declared.ops.Body.TheVariants.{Any, Plain}
use Rattle.nesl_eval_ops.specs.declared.ops.Ops.{Ops}
use Rattle.nesl_eval_ops.specs.declared.ops.Ops.TheVariants.{Finish, Push, Enter, OfLeaf, OfTop, OfLeaves}
use Rattle.nesl_eval_ops.specs.declared.ops.Ops.TheVariants.{OfTopAndLeaf, OfTops, OfMany, Choose, Last, Call, Bind}
use Rattle.nesl_eval_ops.specs.declared.ops.Ops.TheVariants.{Forget, Each, Filtered}
use Rattle.nesl_eval_ops.specs.declared.sizes.Sizes.{Sizes, fold-Sizes}
use Rattle.nesl_eval_ops.specs.declared.sizes.Sizes.TheOpen.{Sizes-F}

abbrev pub what_is : What → block.What
what_is (Number z) = block.number z
what_is (Truth b) = block.truth b
what_is (Character c) = block.character c
what_is (Text cs) = block.text cs.value.items
what_is Empty = block.empty
what_is (Local k) = block.local k []
what_is (Left k) = block.local k (step.Left ∷ [])
what_is (Right k) = block.local k (step.Right ∷ [])
what_is (Part p) = block.local p.value.place p.value.steps.items
what_is Missing = block.missing
what_is (Top k) = block.top k
what_is (Named x) = block.by_name x.value.items

abbrev pub leaf_is : Leaf → block.Leaf
leaf_is l = record { span = l.span; what = what_is l.what }

abbrev pub two_is : Two → block.Maker
two_is (two.Of g) = block.of_two g
two_is (two.OfPair g s) = block.of_pair s g
two_is two.Pair = block.pairing

abbrev pub many_is : Many → block.Maker
many_is (many.OfThree g) = block.of_three g
many_is many.Sequence = block.listing

abbrev pub callee_is : Callee → block.Callee
callee_is (callee.Placed k) = block.placed k
callee_is (callee.Named x) = block.called_by x.items

-- a body's block is that of the code that it is laid from, where it keeps it
abbrev pub body_block : Body → Block
body_block (Any b) = b
body_block (Plain k) = flat k.height k.sizes k.code None

abbrev pub block_of : Ops → Block
block_of Finish = finish
block_of (Push h l b) = push h (leaf_is l) b.value
block_of (Enter h s b) = enter h s b.value
block_of (OfLeaf n l b) = make n.height n.span (block.of_one n.function) 0 (leaf_is l ∷ []) b.value
block_of (OfTop n b) = make n.height n.span (block.of_one n.function) 1 [] b.value
block_of (OfLeaves n l r b) = make n.height n.span (two_is n.two) 0 (leaf_is l ∷ leaf_is r ∷ []) b.value
block_of (OfTopAndLeaf n r b) = make n.height n.span (two_is n.two) 1 (leaf_is r ∷ []) b.value
block_of (OfTops n b) = make n.height n.span (two_is n.two) 2 [] b.value
block_of (OfMany n k ls b) = make n.height n.span (many_is n.many) k (map leaf_is ls.items) b.value
block_of (Choose c d b) = choose c.value d.value b.value
block_of (Last c d) = last c.value d.value
block_of (Call h s f b) = call h s (callee_is f) b.value
block_of (Bind b) = bind b.value
block_of (Forget m b) = forget m b.value
block_of (Each s k c b) = each s k (body_block c.value) b.value
block_of (Filtered s k c d b) = filtered s k (body_block c.value) (body_block d.value) b.value

-- the block in a box
abbrev pub block_in : Box Block → Block
block_in b = b.value

-- the bodies that there are are those of the functions
abbrev pub HasBodies : Table → List (Option Ops) → Type 0
HasBodies t bs =
    (k : ℕ) (o : Ops) (c : Code) → slice_get bs k ≡ Some (Some o) → slot_at t k ≡ Some (function_slot c)
    → block_of o ≡ laying.block (1 ∷ []) c

-- the sizes that a value of the program means
abbrev pub sizes_step : Sizes-F (List ℕ) → List ℕ
sizes_step Sizes-F.Top = []
sizes_step (Sizes-F.Frame k outer) = k ∷ outer.now

abbrev pub sizes_of : Sizes → List ℕ
sizes_of = fold-Sizes (List ℕ) sizes_step
