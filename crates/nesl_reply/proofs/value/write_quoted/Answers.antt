use Rattle.std.proofs.Common.{◌++◌, ◌∷◌, [], map, ap, sym, ◌∙◌}
use Rattle.nesl_values.specs.View.{tree_of}
use Rattle.nesl_reply.specs.Values.{code_of}
use Rattle.nesl_reply.proofs.Lists.{between, list_of_trees_of}
use Rattle.nesl_reply.proofs.value.write_quoted.Goals as goal

pub returns : goal.returns
returns c =
    between c.args.out.now.items c.write_bytes.new.out.items c.write_codes.new.out.items c.write_bytes-2.new.out.items (map code_of (map tree_of c.args.items.now)) c.in_ok-write_bytes.ensures c.in_ok-write_codes.ensures c.in_ok-write_bytes-2.ensures
    ∙ ap (λ ts. c.args.out.now.items ++ 34 ∷ (map code_of ts ++ 34 ∷ [])) (sym (list_of_trees_of (map tree_of c.args.items.now)))
