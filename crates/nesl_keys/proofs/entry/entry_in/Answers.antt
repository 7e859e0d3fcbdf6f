use Rattle.nesl_keys.specs.Entries.{IsListed}
use Rattle.nesl_keys.specs.Shown.{listed_of}
use Rattle.nesl_keys.proofs.Words.{one_entry}
use Rattle.nesl_keys.proofs.entry.entry_in.Goals as goal
use Rattle.nesl_keys.proofs.entry.entry_in.Goals.{then-is_user_name, else-is_user_name, then-is_hex_text, else-is_hex_text}

pub returns-else-is_listed-clause-none : goal.returns-else-is_listed-clause-none
returns-else-is_listed-clause-none c =
    λ listed is said.
    let known = c.in-Some.ensures.some in
    let here : IsListed (listed_of c.in-Some.entry) =
    one_entry c.args.line.now (listed_of c.in-Some.entry) listed known.0 known.1 known.2 said is in
    elim c.if-is_user_name.branch [
      | then-is_user_name w ↦
          elim c.if-is_hex_text.branch [
            | then-is_hex_text v ↦ absurd (cc (here.digest, v.is_hex_text-is_listed.ensures, v.is_listed-is, c.if-is_listed.false))
            | else-is_hex_text v ↦ absurd (cc (here.salt, w.is_hex_text.ensures, w.value-is, v.if-is_hex_text.false))
          ]
      | else-is_user_name w ↦ absurd (cc (here.name, c.is_user_name.ensures, w.if-is_user_name.false))
    ]
