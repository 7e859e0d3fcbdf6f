use Rattle.std.proofs.Common.{ap, ◌∙◌, map}
use Rattle.std.specs.List.{filter}
use Rattle.std.specs.Str.{trim}
use Rattle.std.specs.Str.Iter.{lines_rest}
use Rattle.std.proofs.lemmas.Iterator.{items_from_drains}
use Rattle.std.proofs.lemmas.Iterator.Splits.{YieldsList-from_lines}
use Rattle.nesl_words.specs.Listed.{is_name}
use Rattle.nesl_words.proofs.listed.names_listed.Goals as goal

pub returns : goal.returns
returns c =
    c.loop-line.invariant
    ∙ ap (λ lines. filter is_name (map trim lines))
    (items_from_drains c.loop-line.yielded (c.loop-line.line-iterator, c.loop-line.yielded_by, λ w. (c.next.new.self, c.in-None.ensures.steps))
    (YieldsList-from_lines {s = c.into_iter-line-iterator.result} c.args.text.now (ap lines_rest c.into_iter-line-iterator.ensures.into_iter_gives ∙ c.lines-line-items.ensures.rest)))
