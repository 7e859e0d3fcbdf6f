use Rattle.std.proofs.Common.{◌≡◌, ◌↔◌, ◌+◌, ◌*◌, ◌-◌, ap, sym, ◌∙◌, arith}
use Rattle.nesl_values.specs.Tree.{size, sizes, sequence, trees_of}
use Rattle.nesl_values.specs.Parts.{elements}
use Rattle.nesl_values.specs.View.{tree_of, item_trees}
use Rattle.nesl_values.proofs.Elements.{from_len}
use Rattle.nesl_values.proofs.Questions.{one_asked}
use Rattle.nesl_values.proofs.listed.answer_sequence.Goals as goal

pub returns-in_ok-ask-in-Some : goal.returns-in_ok-ask-in-Some
returns-in_ok-ask-in-Some g c =
    let s = tree_of c.args.one.now in
    let t = tree_of c.args.other.now in
    let xs = item_trees c.items.result in
    let ys = item_trees c.items-in-Some.result in
    let mine : xs ≡ elements s = c.items.ensures.items in
    let theirs : ys ≡ elements t = c.items-in-Some.ensures.items in
    let one : s ≡ sequence (elements s) = c.requires.elements in
    let other : t ≡ sequence (elements t) = from_len t c.in-Some.other_len c.in-Some.ensures in
    let both : (s ≡ t) ↔ (xs ≡ ys) = (λ same. mine ∙ ap elements same ∙ sym theirs, λ same. one ∙ ap sequence (sym mine ∙ same ∙ theirs) ∙ sym other) in
    let nodes : size s ≡ 1 + sizes (trees_of (elements s)) = ap size one in
    let below : sizes (trees_of xs) ≡ sizes (trees_of (elements s)) = ap (λ ts. sizes (trees_of ts)) mine in
    one_asked (xs ≡ ys) (s ≡ t) (3 * sizes (trees_of xs) + 1) (3 * size s - 1) c.args.questions.now.items c.ask.new.questions.items c.in_ok-ask-in-Some.ensures both (omega arith)
