-- The members of a scheme's text, as they are written one after another.
use Rattle.std.proofs.Common.{◌≡◌, ℕ, suc, ◌+◌, ◌<◌, Bool, true, false, List, [], ◌∷◌, ◌++◌, length, get_or, take, codes, cond, refl, sym, ap, ◌∙◌, append_assoc, append-nil, add-zero, length-take, arith}
use Rattle.std.proofs.lemmas.List.{take_more}
use Rattle.nesl_types.specs.declared.classes.Class.{Class}
use Rattle.nesl_types.specs.declared.classes.Class.TheVariants.{Any, Ordinal, Number, Logical}
use Rattle.nesl_types.specs.Texts.{member_texts, later_members_text, members_text}

-- whether there is one
abbrev pub some : List (List ℕ) → Bool
some [] = false
some (t ∷ ts) = true

-- what is written once these members are
abbrev pub written : List (List ℕ) → List ℕ
written [] = []
written (t ∷ ts) = codes " :: (" ++ t ++ later_members_text ts

-- the closing bracket makes the text of the members
pub written-closed : (ts : List (List ℕ)) → written ts ++ (cond (some ts) (41 ∷ []) []) ≡ members_text ts
written-closed [] = refl
written-closed (t ∷ ts) = refl

others-push : (ts : List (List ℕ)) (t : List ℕ) → later_members_text (ts ++ t ∷ []) ≡ later_members_text ts ++ codes "; " ++ t
others-push [] t = simp append-nil
others-push (s ∷ ts) t = simp (others-push ts t, append_assoc)

-- one member more
pub written-push : (ts : List (List ℕ)) (t : List ℕ) → written (ts ++ t ∷ []) ≡ written ts ++ cond (some ts) (codes "; ") (codes " :: (") ++ t
written-push [] t = simp append-nil
written-push (s ∷ ts) t = simp (others-push ts t, append_assoc)

pub some-push : (ts : List (List ℕ)) (t : List ℕ) → some (ts ++ t ∷ []) ≡ true
some-push [] t = refl
some-push (s ∷ ts) t = refl

shift : (v n : ℕ) → suc v + n ≡ v + suc n
shift v n = omega arith

-- the members of a longer list
pub member_texts-push : (v : ℕ) (cs : List Class) (c : Class) → member_texts v (cs ++ c ∷ []) ≡ member_texts v cs ++ member_texts (v + length cs) (c ∷ [])
member_texts-push v [] c = rw add-zero refl
member_texts-push v (Any ∷ cs) c = rw (member_texts-push (suc v) cs c, shift v (length cs)) refl
member_texts-push v (Ordinal ∷ cs) c = rw (member_texts-push (suc v) cs c, shift v (length cs)) refl
member_texts-push v (Number ∷ cs) c = rw (member_texts-push (suc v) cs c, shift v (length cs)) refl
member_texts-push v (Logical ∷ cs) c = rw (member_texts-push (suc v) cs c, shift v (length cs)) refl

-- the members of one class more
pub member_texts_more : (cs : List Class) (i : ℕ) (c : Class) → i < length cs → get_or cs i Any ≡ c →
    member_texts 0 (take (i + 1) cs) ≡ member_texts 0 (take i cs) ++ member_texts i (c ∷ [])
member_texts_more cs i c inside here =
    let place : 0 + length (take i cs) ≡ i = omega (arith, length-take i cs) in
    ap (member_texts 0) (take_more cs i Any inside ∙ ap (λ x. take i cs ++ x ∷ []) here)
    ∙ member_texts-push 0 (take i cs) c
    ∙ ap (λ n. member_texts 0 (take i cs) ++ member_texts n (c ∷ [])) place

-- what is written after one member more
pub record Goes (start next : List ℕ) (us : List (List ℕ)) : Type 0 where
  pub text : next ≡ start ++ written us
  pub started : true ≡ some us

pub written_more : (start out next : List ℕ) (ts us : List (List ℕ)) (t : List ℕ) (started : Bool) → us ≡ ts ++ t ∷ [] →
    out ≡ start ++ written ts → started ≡ some ts → next ≡ out ++ cond started (codes "; ") (codes " :: (") ++ t →
    Goes start next us
written_more start out next ts us t started e o s n =
    let lead : Bool → List ℕ = λ b. cond b (codes "; ") (codes " :: (") in
    let p : out ++ lead started ++ t ≡ (start ++ written ts) ++ lead (some ts) ++ t = cc in
    let q : (start ++ written ts) ++ lead (some ts) ++ t ≡ start ++ (written ts ++ lead (some ts) ++ t) = simp append_assoc in
    record {
      text = n ∙ p ∙ q ∙ ap (λ l. start ++ l) (sym (written-push ts t) ∙ sym (ap written e));
      started = sym (some-push ts t) ∙ sym (ap some e);
    }
