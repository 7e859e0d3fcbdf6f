-- The size of a heap, as it is read.
use Rattle.std.proofs.Common.{◌≡◌, ℕ, ◌-◌, ◌^◌, ◌<◌, List, Bool, true, false, cond, Option, Some, None, refl, sym, ap, ◌∙◌, arith}
use Rattle.std.specs.Prelude.{Ok, Err, Result, option_and_then}
use Rattle.std.specs.Str.Parse.{IsNumeral, ParsesUnsigned, digits_value, without_leading_plus}
use Rattle.clap.specs.Matches.{ReadsOne}
use Rattle.clap.specs.Values.{IsUnsignedIn}
use Rattle.clap.specs.ValueTests.{is_unsigned_in}
use Rattle.clap.specs.declared.builder.value_parser.ValueParser.TheVariants as vp
use Rattle.clap.proofs.ValueTestLemmas.{accepts-Accepts, Accepts-accepts}
use Rattle.nesl_words.specs.Words.{number}

-- a number of 64 bits is read as it is
pub read_number : (text : List ℕ) (n : ℕ) → IsNumeral 10 (without_leading_plus text) → digits_value 10 (without_leading_plus text) < 2 ^ 64 → n ≡ digits_value 10 (without_leading_plus text) → Some n ≡ number text
read_number text n numeral few e =
    let value = digits_value 10 (without_leading_plus text) in
    let yes' : is_unsigned_in 0 (2 ^ 64 - 1) text ≡ true = Accepts-accepts false (vp.Unsigned 0 (2 ^ 64 - 1)) text (numeral, few, omega arith, omega (arith, few)) in
    ap (λ x. Some x) e ∙ sym (ap (λ (b : Bool). cond b (Some value) None) yes')

refused_by : (text : List ℕ) (b : Bool) → is_unsigned_in 0 (2 ^ 64 - 1) text ≡ b → (IsNumeral 10 (without_leading_plus text) × (digits_value 10 (without_leading_plus text) < 2 ^ 64) → ⊥) → b ≡ false
refused_by text true e no' = let in_range : IsUnsignedIn 0 (2 ^ 64 - 1) text = accepts-Accepts false (vp.Unsigned 0 (2 ^ 64 - 1)) text e in absurd (no' (in_range.0, in_range.1))
refused_by text false e no' = refl

-- and any other text is none
pub read_nothing : (text : List ℕ) → (IsNumeral 10 (without_leading_plus text) × (digits_value 10 (without_leading_plus text) < 2 ^ 64) → ⊥) → None ≡ number text
read_nothing text no' =
    let value = digits_value 10 (without_leading_plus text) in
    sym (ap (λ (b : Bool). cond b (Some value) None) (refused_by text (is_unsigned_in 0 (2 ^ 64 - 1) text) refl no'))

-- what is read of a text is the number that it is, if it is one
module _ (E : Type 0) (gives : List ℕ → Result ℕ E → Type 0) where
  reads : ((t : List ℕ) (r : Result ℕ E) → gives t r → ParsesUnsigned 64 10 t r) → (text : List ℕ) (size : Option ℕ) → ReadsOne gives text size → size ≡ number text
  reads parses text (Some n) r = let p = parses text (Ok n) r in read_number text n p.0.0 p.0.1 p.1
  reads parses text None r = read_nothing text (parses text (Err r.0) r.1)

  -- the text of the heap's size was read, if there was one
  pub number_read : (text found : Option (List ℕ)) (size : Option ℕ) → text ≡ found → (text ≡ None → size ≡ None) → ((t : List ℕ) → text ≡ Some t → ReadsOne gives t size) → ((t : List ℕ) (r : Result ℕ E) → gives t r → ParsesUnsigned 64 10 t r)
      → size ≡ option_and_then number found
  number_read None found size same none value parses = none refl ∙ ap (option_and_then number) same
  number_read (Some t) found size same none value parses = reads parses t size (value t refl) ∙ ap (option_and_then number) same
