use Rattle.std.proofs.Common.{true, set, fold, refl, ◌∙◌}
use Rattle.std.proofs.lemmas.List.{length-set}
use Rattle.nesl_types_shared.specs.Numbering.{variables, with_number}
use Rattle.nesl_types_shared.specs.Types.{type_at}
use Rattle.nesl_types_shared.proofs.Visited.{skip, enter, less_left, top_inside, top_mark}
use Rattle.nesl_types_shared.proofs.visiting.note_part_variables.Goals as goal

pub loop-next-preserved-then-index : goal.loop-next-preserved-then-index
loop-next-preserved-then-index c =
    let f = type_at c.args.parts.now in
    let marks = c.loop-next.visited.items in
    let seen = c.loop-next.seen.keys in
    let ps = c.pop.new.self.items in
    let qs = c.loop-next.stack.items in
    let p = c.in-Some.next in
    let all = fold with_number c.args.seen.now.keys (variables (f c.args.place)) in
    let i = c.loop-next.invariant.visiting in
    let q = c.in-Some.ensures.items in
    record {
      len = c.loop-next.invariant.len;
      visiting = skip f marks seen ps qs all p q (top_mark f marks seen ps qs all p c.index.result.now q i c.index.ensures ∙ c.if-index.true) i;
    }

pub loop-next-smaller : goal.loop-next-smaller
loop-next-smaller c =
    let f = type_at c.args.parts.now in
    let marks = c.loop-next.visited.items in
    let seen = c.loop-next.seen.keys in
    let ps = c.pop.new.self.items in
    let qs = c.loop-next.stack.items in
    let p = c.in-Some.next in
    let all = fold with_number c.args.seen.now.keys (variables (f c.args.place)) in
    let i = c.loop-next.invariant.visiting in
    let q = c.in-Some.ensures.items in
    less_left marks ps qs c.push_parts.new.stack.items p c.shape.result (top_inside f marks seen ps qs all p q i) (top_mark f marks seen ps qs all p c.index.result.now q i c.index.ensures ∙ c.if-index.false) q c.in_ok-push_parts.ensures.stack

pub loop-next-preserved : goal.loop-next-preserved
loop-next-preserved c =
    let f = type_at c.args.parts.now in
    let marks = c.loop-next.visited.items in
    let p = c.in-Some.next in
    let all = fold with_number c.args.seen.now.keys (variables (f c.args.place)) in
    record {
      len = length-set marks p true ∙ c.loop-next.invariant.len;
      visiting = enter f marks (set marks p true) c.loop-next.seen.keys c.push_parts.new.seen.keys c.pop.new.self.items c.loop-next.stack.items c.push_parts.new.stack.items all p c.shape.result c.in-Some.ensures.items refl c.in_ok-push_parts.ensures.seen c.in_ok-push_parts.ensures.stack c.shape.ensures.shape c.shape.ensures.parts c.loop-next.invariant.visiting;
    }
