-- What comes after a signature's ->, from its parts.
use Rattle.std.proofs.Common.{◌≡◌, List, Option, Some, None, Vec, Global}
use Rattle.std.specs.Prelude.{Ok}
use Rattle.nesl_lex.specs.Tokens.{Placed}
use Rattle.nesl_syntax.specs.declared.cut.Divider.TheVariants as divider
use Rattle.nesl_syntax_tree.specs.declared.tree.Member.{Member}
use Rattle.nesl_syntax_tree.specs.declared.parts.types.TypePart.{TypePart}
use Rattle.nesl_syntax_tree.specs.Trees.{TypeTree, MemberTree}
use Rattle.nesl_syntax_open.specs.Machine.{written_type}
use Rattle.nesl_syntax.specs.Steps.{TypeGiven}
use Rattle.nesl_syntax.specs.Reading.{cut, with_both, target, target_in, bracketed_in}
use Rattle.nesl_syntax.specs.Given.{Given, SeesMembers, SeesTarget}

by_parts : (to : TypePart) (members : Vec Member Global) (a : Option TypeTree) (b : Option (List MemberTree)) → TypeGiven (Ok to) a → Given (λ (v : Vec Member Global). SeesMembers v.items) (Ok members) b → Given SeesTarget (Ok (record { to = to; members = members })) (with_both target a b)
by_parts to members (Some a) (Some ms) g h = (g, h)
by_parts to members (Some a) None g h = absurd h
by_parts to members None b g h = absurd g

pub target_given : (ts us vs : List Placed) (to : TypePart) (members : Vec Member Global) → cut divider.DoubleColon ts ≡ Some (us, vs) → TypeGiven (Ok to) (written_type us) → Given (λ (v : Vec Member Global). SeesMembers v.items) (Ok members) (bracketed_in vs) → Given SeesTarget (Ok (record { to = to; members = members })) (target_in ts)
target_given ts us vs to members e g h = rw e (by_parts to members (written_type us) (bracketed_in vs) g h)
