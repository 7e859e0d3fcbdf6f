use Rattle.std.proofs.Common.{◌≡◌, ◌+◌, ◌*◌, ◌-◌, ◌^◌, ◌∷◌, drop, length}
use Rattle.std.specs.Prelude.{option_map}
use Rattle.nesl_eval_code.specs.Flat.{pushing, flat, forgetting, room}
use Rattle.nesl_eval_ops.specs.View.{block_in, sizes_of}
use Rattle.nesl_eval_ops.specs.Lists.{parts_on, binding_on}
use Rattle.nesl_eval_ops.proofs.laying.+laying.Given as goal

abbrev pub decreases-laid : goal.decreases-laid
decreases-laid l = (2 ^ 32 - l.at.now.height) * 8 + 5

abbrev pub decreases-laid_one : goal.decreases-laid_one
decreases-laid_one l = (2 ^ 32 - l.at.now.height) * 8 + 4

abbrev pub decreases-laid_two : goal.decreases-laid_two
decreases-laid_two l = (2 ^ 32 - l.at.now.height) * 8 + 4

abbrev pub decreases-laid_three : goal.decreases-laid_three
decreases-laid_three l = (2 ^ 32 - l.at.now.height) * 8 + 4

abbrev pub decreases-laid_call : goal.decreases-laid_call
decreases-laid_call l = (2 ^ 32 - l.at.now.height) * 8 + 4

abbrev pub decreases-laid_named : goal.decreases-laid_named
decreases-laid_named l = (2 ^ 32 - l.at.now.height) * 8 + 4

abbrev pub decreases-laid_choice : goal.decreases-laid_choice
decreases-laid_choice l = (2 ^ 32 - l.at.now.height) * 8 + 4

abbrev pub decreases-laid_sequence : goal.decreases-laid_sequence
decreases-laid_sequence l = (2 ^ 32 - l.at.now.height) * 8 + 4

abbrev pub decreases-laid_let : goal.decreases-laid_let
decreases-laid_let l = (2 ^ 32 - l.at.now.height) * 8 + 4

abbrev pub decreases-laid_each : goal.decreases-laid_each
decreases-laid_each l = (2 ^ 32 - l.at.now.height) * 8 + 4

abbrev pub decreases-laid_filtered : goal.decreases-laid_filtered
decreases-laid_filtered l = (2 ^ 32 - l.at.now.height) * 8 + 4

abbrev pub decreases-enter_one : goal.decreases-enter_one
decreases-enter_one l = (2 ^ 32 - l.at.now.height) * 8 + 3

abbrev pub decreases-enter_two : goal.decreases-enter_two
decreases-enter_two l = (2 ^ 32 - l.at.now.height) * 8 + 3

abbrev pub decreases-enter_three : goal.decreases-enter_three
decreases-enter_three l = (2 ^ 32 - l.at.now.height) * 8 + 3

abbrev pub decreases-enter_sequence : goal.decreases-enter_sequence
decreases-enter_sequence l = (2 ^ 32 - l.at.now.height) * 8 + 3

abbrev pub decreases-enter_let : goal.decreases-enter_let
decreases-enter_let l = (2 ^ 32 - l.at.now.height) * 8 + 3

abbrev pub decreases-of_call : goal.decreases-of_call
decreases-of_call l = (2 ^ 32 - l.at.now.height) * 8 + 2

abbrev pub decreases-of_call_named : goal.decreases-of_call_named
decreases-of_call_named l = (2 ^ 32 - l.at.now.height) * 8 + 3

abbrev pub decreases-of_choice : goal.decreases-of_choice
decreases-of_choice l = (2 ^ 32 - l.at.now.height) * 8 + 3

abbrev pub decreases-of_each : goal.decreases-of_each
decreases-of_each l = (2 ^ 32 - l.at.now.height) * 8 + 3

abbrev pub decreases-of_filtered : goal.decreases-of_filtered
decreases-of_filtered l = (2 ^ 32 - l.at.now.height) * 8 + 3

abbrev pub decreases-each_body : goal.decreases-each_body
decreases-each_body l = (2 ^ 32 - l.at.now.height) * 8 + 6

abbrev pub decreases-inside : goal.decreases-inside
decreases-inside l = (2 ^ 32 - l.at.now.height) * 8 + 6

abbrev pub decreases-pushed : goal.decreases-pushed
decreases-pushed l = (2 ^ 32 - l.at.now.height) * 8 + 6

abbrev pub decreases-of_two : goal.decreases-of_two
decreases-of_two l = (2 ^ 32 - l.at.now.height) * 8 + 7

abbrev pub decreases-of_three : goal.decreases-of_three
decreases-of_three l = (2 ^ 32 - l.at.now.height) * 8 + 7

abbrev pub decreases-applying : goal.decreases-applying
decreases-applying l = (2 ^ 32 - l.at.now.height) * 8 + 7

abbrev pub decreases-of_sequence : goal.decreases-of_sequence
decreases-of_sequence l = (2 ^ 32 - l.at.now.height) * 8 + 7

abbrev pub decreases-of_let : goal.decreases-of_let
decreases-of_let l = (2 ^ 32 - l.at.now.height) * 8 + 7

abbrev pub invariant-pushed-loop-turn : goal.invariant-pushed-loop-turn
invariant-pushed-loop-turn l =
    block_in l.made ≡ pushing (parts_on l.at.height (sizes_of l.at.sizes.now) (drop (length l.codes - l.turn) l.codes))
    (block_in l.fn.next)

abbrev pub invariant-of_let-loop-turn : goal.invariant-of_let-loop-turn
invariant-of_let-loop-turn l =
    let h = l.at.height in
    let ks = sizes_of l.at.sizes.now in
    block_in l.made ≡ binding_on h ks (length l.bindings - l.turn) (drop (length l.bindings - l.turn) l.bindings)
    (λ k. flat h (k ∷ ks) l.body (forgetting (room ks) (option_map block_in l.fn.next)))
