-- Which reserved word, truth value or name some small letters are.
use Rattle.std.proofs.Common.{◌≡◌, ◌≢◌, ℕ, Bool, true, false, cond, map, List, [], ◌∷◌, Option, Some, None, inl, inr, refl, ap, sym, subst, ◌∙◌}
use Rattle.std.specs.Prelude.{codes}
use Rattle.std.specs.Str.{bytes_eq}
use Rattle.std.proofs.lemmas.Slice.Eq.{bytes_eq-Decides}
use Rattle.nesl_lex.specs.declared.token.Word.{Word}
use Rattle.nesl_lex.specs.declared.token.Word.TheVariants as word
use Rattle.nesl_lex.specs.Tokens.{Lexeme, number, name, reserved, truth, character, quoted, symbol}
use Rattle.nesl_lex.specs.Lexemes.{word_text, small_letter, IsTruthText, SpellsName}
use Rattle.nesl_lex.specs.Reading.{all_words, word_among, word_in, truth_in, named_by, named_in}

word_read : (w : Word) → word_in (word_text w) ≡ Some w
word_read word.Function = refl
word_read word.Datatype = refl
word_read word.Let = refl
word_read word.In = refl
word_read word.If = refl
word_read word.Then = refl
word_read word.Else = refl
word_read word.Or = refl
word_read word.Nor = refl
word_read word.Xor = refl
word_read word.And = refl
word_read word.Nand = refl
word_read word.Int = refl
word_read word.Bool = refl
word_read word.Char = refl

found_first : (bytes : List ℕ) (v w : Word) (ws : List Word) (r : Bool) → bytes_eq bytes (word_text v) ≡ r → (word_among ws bytes ≡ Some w → bytes ≡ word_text w) → cond r (Some v) (word_among ws bytes) ≡ Some w → bytes ≡ word_text w
found_first bytes v w ws true k f h = let e : v ≡ w = cc in (bytes_eq-Decides bytes (word_text v)).0 k ∙ ap word_text e
found_first bytes v w ws false k f h = f h

word_found : (ws : List Word) (bytes : List ℕ) (w : Word) → word_among ws bytes ≡ Some w → bytes ≡ word_text w
word_found [] bytes w h = cc
word_found (v ∷ ws) bytes w h = found_first bytes v w ws (bytes_eq bytes (word_text v)) refl (word_found ws bytes w) h

word_none : (bytes : List ℕ) → word_in bytes ≡ None → (w : Word) → bytes ≢ word_text w
word_none bytes h w e = let k = word_read w in let f : word_in (word_text w) ≡ None = subst (λ (bs : List ℕ). word_in bs ≡ None) e h in cc

truth_named : (small : List ℕ) (value : Bool) → IsTruthText small value → named_in small ≡ truth value
truth_named small true t = elim t [ inl e ↦ subst (λ (bs : List ℕ). named_in bs ≡ truth true) (sym e) refl | inr e ↦ subst (λ (bs : List ℕ). named_in bs ≡ truth true) (sym e) refl ]
truth_named small false t = elim t [ inl e ↦ subst (λ (bs : List ℕ). named_in bs ≡ truth false) (sym e) refl | inr e ↦ subst (λ (bs : List ℕ). named_in bs ≡ truth false) (sym e) refl ]

truth_found : (bytes : List ℕ) (value : Bool) (p q r s : Bool) → bytes_eq bytes (codes "t") ≡ p → bytes_eq bytes (codes "true") ≡ q → bytes_eq bytes (codes "f") ≡ r → bytes_eq bytes (codes "false") ≡ s
    → cond p (Some true) (cond q (Some true) (cond r (Some false) (cond s (Some false) None))) ≡ Some value → IsTruthText bytes value
truth_found bytes true true q r s a b c d h = inl ((bytes_eq-Decides bytes (codes "t")).0 a)
truth_found bytes true false true r s a b c d h = inr ((bytes_eq-Decides bytes (codes "true")).0 b)
truth_found bytes true false false true s a b c d h = cc
truth_found bytes true false false false true a b c d h = cc
truth_found bytes true false false false false a b c d h = cc
truth_found bytes false true q r s a b c d h = cc
truth_found bytes false false true r s a b c d h = cc
truth_found bytes false false false true s a b c d h = inl ((bytes_eq-Decides bytes (codes "f")).0 c)
truth_found bytes false false false false true a b c d h = inr ((bytes_eq-Decides bytes (codes "false")).0 d)
truth_found bytes false false false false false a b c d h = cc

truth_read : (small : List ℕ) (value : Bool) → truth_in small ≡ Some value → IsTruthText small value
truth_read small value h = truth_found small value (bytes_eq small (codes "t")) (bytes_eq small (codes "true")) (bytes_eq small (codes "f")) (bytes_eq small (codes "false")) refl refl refl refl h

named_from : (small : List ℕ) (w : Option Word) (v : Option Bool) → word_in small ≡ w → truth_in small ≡ v → SpellsName small (named_by small w v)
named_from small (Some w) v h k = word_found all_words small w h
named_from small None (Some v) h k = truth_read small v k
named_from small None None h k = (refl, word_none small h, λ value t. let e = truth_named small value t in let f : named_in small ≡ name small = rw (h, k) refl in cc)

-- small letters are what the code found them to be
pub word_spelled : (small bytes : List ℕ) (found : Option Word) (w : Word) → bytes ≡ small → found ≡ word_in bytes → found ≡ Some w → small ≡ word_text w
word_spelled small bytes found w h k e = sym h ∙ word_found all_words bytes w (sym k ∙ e)

pub truth_spelled : (small bytes : List ℕ) (found : Option Bool) (value : Bool) → bytes ≡ small → found ≡ truth_in bytes → found ≡ Some value → IsTruthText small value
truth_spelled small bytes found value h k e = subst (λ (bs : List ℕ). IsTruthText bs value) h (truth_read bytes value (sym k ∙ e))

pub name_spelled : (small bytes text : List ℕ) (word : Option Word) (value : Option Bool) → bytes ≡ small → word ≡ word_in bytes → ((w : Word) → word ≡ Some w → ⊥) → text ≡ small → value ≡ truth_in text → value ≡ None → SpellsName small (name small)
name_spelled small bytes text (Some w) value h k n g l f = absurd (n w refl)
name_spelled small bytes text None value h k n g l f = named_from small None None (ap word_in (sym h) ∙ sym k) (ap truth_in (sym g) ∙ sym l ∙ f)

-- the text of a word is in small letters
word_small : (w : Word) → map small_letter (word_text w) ≡ word_text w
word_small word.Function = refl
word_small word.Datatype = refl
word_small word.Let = refl
word_small word.In = refl
word_small word.If = refl
word_small word.Then = refl
word_small word.Else = refl
word_small word.Or = refl
word_small word.Nor = refl
word_small word.Xor = refl
word_small word.And = refl
word_small word.Nand = refl
word_small word.Int = refl
word_small word.Bool = refl
word_small word.Char = refl

pub word_as_is : (text : List ℕ) (found : Option Word) (w : Word) → found ≡ word_in text → found ≡ Some w → map small_letter text ≡ word_text w
word_as_is text found w k e = ap (map small_letter) (word_found all_words text w (sym k ∙ e)) ∙ word_small w

-- small letters that spell a lexeme are read as it
pub named_is : (small : List ℕ) → SpellsName small (named_in small)
named_is small = named_from small (word_in small) (truth_in small) refl refl

word_named : (small : List ℕ) (w : Word) → small ≡ word_text w → named_in small ≡ reserved w
word_named small w e = let k : word_in small ≡ Some w = ap word_in e ∙ word_read w in rw k refl

name_named : (small : List ℕ) → ((w : Word) → small ≢ word_text w) → ((value : Bool) → IsTruthText small value → ⊥) → (x : Lexeme) → x ≡ named_in small → SpellsName small x → x ≡ name small
name_named small no_word no_truth (number n) h i = absurd i
name_named small no_word no_truth (name bytes) h i = ap name i.0
name_named small no_word no_truth (reserved w) h i = absurd (no_word w i)
name_named small no_word no_truth (truth value) h i = absurd (no_truth value i)
name_named small no_word no_truth (character c) h i = absurd i
name_named small no_word no_truth (quoted bytes) h i = absurd i
name_named small no_word no_truth (symbol s) h i = absurd i

-- such letters spell no other lexeme
pub named_one : (small : List ℕ) (x : Lexeme) → SpellsName small x → named_in small ≡ x
named_one small (number n) i = absurd i
named_one small (name bytes) i = name_named small i.1 i.2 (named_in small) refl (named_is small) ∙ ap name (sym i.0)
named_one small (reserved w) i = word_named small w i
named_one small (truth value) i = truth_named small value i
named_one small (character c) i = absurd i
named_one small (quoted bytes) i = absurd i
named_one small (symbol s) i = absurd i
