-- Who is turned away is not let in.
use Rattle.std.proofs.Common.{◌≡◌, ℕ, List, sym, subst}
use Rattle.std.specs.Prelude.{Result, Ok, Err, IfErr, OnErr, ◌≢◌, true}
use Rattle.nesl_keys.specs.declared.sign_in.TurnedAway.{TurnedAway}
use Rattle.nesl_keys.specs.declared.sign_in.TurnedAway.TheVariants as away
use Rattle.nesl_keys.specs.Names.{is_user_name}
use Rattle.nesl_keys.specs.Entries.{Listed, Opens}
use Rattle.nesl_keys.specs.Admission.{IsKeyed, IsUnkeyed, IsUnnamed, no_key_line, wrong_key, other, user_line}
use Rattle.nesl_keys.proofs.Words.{hex_length, one_key_line}

-- by a key
pub not_keyed :
    (listed : List Listed) (first heard : List ℕ) (fault : TurnedAway) → IsUnkeyed listed first fault
    → ¬ IsKeyed listed first heard
not_keyed listed first heard fault (no_key_line none) keyed = none keyed.name keyed.key keyed.are keyed.said
not_keyed listed first heard fault (wrong_key name key are said closed) keyed =
    let same = one_key_line first name key keyed.name keyed.key said (hex_length 32 key are.key_is) keyed.are keyed.said in
    let P : List ℕ → Type 0 = λ n. Opens listed n key in
    let Q : List ℕ → Type 0 = λ k. Opens listed keyed.name k in
    closed (subst P (sym same.0) (subst Q (sym same.1) keyed.opens))

pub nobody_keyed :
    {T : Type 0} (r : Result T TurnedAway) (listed : List Listed) (first : List ℕ) → IfErr r (IsUnkeyed listed first)
    → OnErr r ((heard : List ℕ) → ¬ IsKeyed listed first heard)
nobody_keyed (Ok x) listed first e = tt
nobody_keyed (Err fault) listed first e = λ heard. not_keyed listed first heard fault e

-- by a name that the first line doesn't have
pub named_otherwise :
    {T : Type 0} (r : Result T TurnedAway) (missing : TurnedAway) (Names : List ℕ → Type 0) (first name : List ℕ)
    → is_user_name name ≡ true → Names name
    → IfErr r (λ fault. (fault ≡ away.Other) × (first ≢ user_line name)) → IfErr r (IsUnnamed missing Names first)
named_otherwise (Ok x) missing Names first name is named e = tt
named_otherwise (Err fault) missing Names first name is named e =
    let P : TurnedAway → Type 0 = λ f. IsUnnamed missing Names first f in
    subst P (sym e.0) (other name is named e.1)
