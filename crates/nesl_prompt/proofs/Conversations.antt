-- The lines that a session is given at a prompt.
use Rattle.std.proofs.Common.{◌≡◌, ◌≢◌, ℕ, ◌<◌, ◌==◌, length, arith, List, [], ◌∷◌, ◌++◌, Bool, true, false, not, ◌&&◌, cond, Option, None, refl, append-nil, sym, ap, ◌∙◌, subst}
use Rattle.std.specs.Prelude.{codes}
use Rattle.std.proofs.lemmas.Bool.{eqb-true}
use Rattle.nesl_session_meaning.specs.State.{Log}
use Rattle.nesl_session_meaning.specs.Response.{Reply}
use Rattle.nesl_session_meaning.specs.Solo.{Responds}
use Rattle.nesl_line.specs.declared.exchange.End.{End}
use Rattle.nesl_prompt.specs.declared.style.Style.{Style}
use Rattle.nesl_prompt.specs.Points.{Point, LineAndReply, Replied, WasGiven, Obeyed, joined, is_plain}
use Rattle.nesl_reply.specs.declared.fault.Fault.{Fault}
use Rattle.nesl_prompt.specs.Conversation.{IsSign, missing, begins, goes_on, IsBelow, IsWritten, whole, cut, IsReplyText, TakesLine, gathers, answers, runs_out, Turn, Conversed, Rests}

pub replied_then : (a b c : Log) (xs ys : List LineAndReply) → Replied a xs b → Replied b ys c → Replied a (xs ++ ys) c
replied_then a b c [] ys p q = let P : Log → Type 0 = λ x. Replied x ys c in subst P p q
replied_then a b c (x ∷ xs) ys p q = (p.0, p.1, replied_then p.0 b c xs ys p.2 q)

-- the session was given no line
pub given_none : (a b : Log) → b ≡ a → WasGiven a b
given_none a b e = record { lines = []; replied = e }

-- the session was given some lines, and then others
pub given_then : (a b c : Log) → WasGiven a b → WasGiven b c → WasGiven a c
given_then a b c p q = record { lines = p.lines ++ q.lines; replied = replied_then a b c p.lines q.lines p.replied q.replied }

-- the session was given one line
pub given_one : (a b : Log) (line : List ℕ) (reply : Reply) → Responds a line reply b → WasGiven a b
given_one a b line reply r = record { lines = record { line = line; reply = reply } ∷ []; replied = (b, r, refl) }

-- a line of a form was taken
pub takes_given : (plain : Bool) (point point' : Point) (line text : List ℕ) → TakesLine plain point line text point' → WasGiven point.log point'.log
takes_given plain point point' line text (gathers g f l p) = given_none point.log point'.log l
takes_given plain point point' line text (answers reply ends r f t) = given_one point.log point'.log (joined point.form line) reply r
takes_given plain point point' line text (runs_out f l t) = given_none point.log point'.log l

pub obeyed_none : (any : Bool) (a b : Log) → b ≡ a → Obeyed any a b
obeyed_none any a b e = record { lines = []; none = λ f. refl; replied = e }

pub obeyed_some : (any : Bool) (a b : Log) → any ≡ true → WasGiven a b → Obeyed any a b
obeyed_some true a b e s = record { lines = s.lines; none = λ f. absurd (cc); replied = s.replied }
obeyed_some false a b e s = absurd (cc)

-- one line more
pub conversed_more : (plain : Bool) (point mid last : Point) (lines texts : List (List ℕ)) (line text : List ℕ) → Conversed plain point lines texts mid → Turn plain mid line text last
    → Conversed plain point (lines ++ line ∷ []) (texts ++ text ∷ []) last
conversed_more plain point mid last [] [] line text c t = let P : Point → Type 0 = λ x. Turn plain x line text last in (last, subst P c t, refl)
conversed_more plain point mid last [] (s ∷ ss) line text c t = absurd c
conversed_more plain point mid last (l ∷ ls) [] line text c t = absurd c
conversed_more plain point mid last (l ∷ ls) (s ∷ ss) line text c t = (c.0, c.1, conversed_more plain c.0 mid last ls ss line text c.2 t)

-- the same of a reply
written_plainly : (a b : Bool) (reply more text : List ℕ) → (a ≡ true → b ≡ true) → IsWritten b reply more text → IsWritten a reply more text
written_plainly a b reply more text h (whole e) = whole e
written_plainly true b reply more text h (cut front left_out rest note p r e) = let no' : true ≡ false = sym (h refl) ∙ p in absurd (cc)
written_plainly false b reply more text h (cut front left_out rest note p r e) = cut front left_out rest note refl r e

-- where only replies are written, a reply is whole
pub written_whole : (reply more text : List ℕ) → IsWritten true reply more text → text ≡ reply ++ more
written_whole reply more text (whole e) = e
written_whole reply more text (cut front left_out rest note p r e) = absurd (cc)

-- where there are prompts, the style isn't plain
pub not_plain : (style : Style) → style.prompts ≡ true → is_plain style ≡ false
not_plain style p = ap (λ x. not x && not style.hints) p

-- a text for a plain style is also one for any other
pub told_plainly : (a b : Bool) (reply : Reply) (text : List ℕ) → (a ≡ true → b ≡ true) → IsReplyText b reply text → IsReplyText a reply text
told_plainly a b reply text h t = record {
  more = t.more;
  written = written_plainly a b reply.bytes t.more text h t.written;
  below = record {
    hint = t.below.hint;
    sign = t.below.sign;
    spelled = t.below.spelled;
    on_faults = t.below.on_faults;
    prompted = t.below.prompted;
    alone = λ e. t.below.alone (h e);
  };
}

no_hints : (p h : Bool) → (not p && not h) ≡ true → (p ≡ false) × (h ≡ false)
no_hints true h e = absurd (cc)
no_hints false true e = absurd (cc)
no_hints false false e = (refl, refl)

-- a plain style has neither
pub plain_parts : (style : Style) → is_plain style ≡ true → (style.prompts ≡ false) × (style.hints ≡ false)
plain_parts style e = no_hints style.prompts style.hints e

pub plain_of : (style : Style) → style.prompts ≡ false → style.hints ≡ false → is_plain style ≡ true
plain_of style p h = ap (λ x. not x && not style.hints) p ∙ ap (λ x. not false && not x) h

-- a hint, where one is wanted and there is a fault, and a prompt
pub below_of : (style : Style) (fault : Option Fault) (hint more sign : List ℕ) → (style.hints ≡ false → hint ≡ []) → (fault ≡ None → hint ≡ []) → (style.prompts ≡ false → more ≡ hint) → IsSign sign → more ≡ hint ++ sign → IsBelow (is_plain style) fault more
below_of style fault hint more sign w f u p e = record {
  hint = hint;
  sign = sign;
  spelled = e;
  on_faults = f;
  prompted = p;
  alone = λ t. let parts = plain_parts style t in u parts.0 ∙ w parts.1;
}

-- the same after nothing
pub below_none : (style : Style) (fault : Option Fault) (text more sign : List ℕ) → text ≡ [] → (style.prompts ≡ false → more ≡ text) → IsSign sign → more ≡ text ++ sign → IsBelow (is_plain style) fault more
below_none style fault text more sign n u p e = below_of style fault text more sign (λ _. n) (λ _. n) u p e

is_sign : (is_open : Bool) → IsSign (cond is_open (codes ". ") (codes "> "))
is_sign true = goes_on refl
is_sign false = begins refl

-- a text with a prompt after it, and one without
pub signed : (text more sign : List ℕ) (is_open : Bool) → sign ≡ cond is_open (codes ". ") (codes "> ") → more ≡ text ++ sign → (s : List ℕ) × IsSign s × (more ≡ text ++ s)
signed text more sign is_open e m = let P : List ℕ → Type 0 = IsSign in (sign, subst P (sym e) (is_sign is_open), m)

pub unsigned : (text more : List ℕ) → more ≡ text → (s : List ℕ) × IsSign s × (more ≡ text ++ s)
unsigned text more e = ([], missing refl, e ∙ sym (append-nil text))

-- the first line of a form, and one after others
pub joined_first : (form line : List ℕ) → form ≡ [] → joined form line ≡ line
joined_first [] line e = refl
joined_first (b ∷ bs) line e = absurd (cc)

pub joined_more : (form line : List ℕ) → 0 < length form → joined form line ≡ form ++ 32 ∷ line
joined_more [] line h = absurd (omega (arith, h))
joined_more (b ∷ bs) line h = refl

-- the line that the session was given is the form
pub responds_to : (old new : Log) (said form : List ℕ) (reply : Reply) → said ≡ form → Responds old said reply new → Responds old form reply new
responds_to old new said form reply e r = let P : List ℕ → Type 0 = λ x. Responds old x reply new in subst P e r

-- a form that goes on is begun
pub begun : (items : List ℕ) (n : ℕ) (b : Bool) → n ≡ length items → b ≡ (n == 0) → items ≢ [] → not b ≡ true
begun [] n b l e ne = absurd (ne refl)
begun (x ∷ xs) n true l e ne = let z : n ≡ 0 = eqb-true n 0 (sym e) in absurd (omega (arith, l, z))
begun (x ∷ xs) n false l e ne = refl

-- a turn in the style that was there at first
pub turn_at : (a b : Style) (point point' : Point) (line text : List ℕ) → a ≡ b → Turn (is_plain a) point line text point' → Turn (is_plain b) point line text point'
turn_at a b point point' line text e t = let P : Style → Type 0 = λ x. Turn (is_plain x) point line text point' in subst P e t

-- no form goes on
pub emptied : (items : List ℕ) (n : ℕ) (b : Bool) → n ≡ length items → b ≡ (n == 0) → b ≡ true → items ≡ []
emptied [] n b l e t = refl
emptied (x ∷ xs) n b l e t = let z : n ≡ 0 = eqb-true n 0 (sym e ∙ t) in absurd (omega (arith, l, z))

-- one does
pub filled : (items : List ℕ) (n : ℕ) (b : Bool) → n ≡ length items → b ≡ (n == 0) → b ≡ false → items ≢ []
filled [] n b l e t = let z : (n == 0) ≡ true = ap (λ k. k == 0) l in let no' : true ≡ false = sym z ∙ sym e ∙ t in absurd (cc)
filled (x ∷ xs) n b l e t = λ e'. absurd (cc)

pub not_not : (b : Bool) → not b ≡ true → b ≡ false
not_not true e = absurd (cc)
not_not false e = refl

-- a conversation from its beginning, in a style
pub conversed_from : (a b : Style) (form : List ℕ) (log : Log) (point : Point) (lines texts : List (List ℕ)) → a ≡ b → form ≡ [] → Conversed (is_plain a) (record { form = form; log = log }) lines texts point → Conversed (is_plain b) (record { form = []; log = log }) lines texts point
conversed_from a b form log point lines texts e f c =
    let P : Style → Type 0 = λ x. Conversed (is_plain x) (record { form = []; log = log }) lines texts point in
    let Q : List ℕ → Type 0 = λ x. Conversed (is_plain a) (record { form = x; log = log }) lines texts point in
    subst P e (subst Q f c)

pub rests_in : (a b : Style) (end : End) (point : Point) (log : Log) (held held' : Option (List ℕ)) (well : Bool) → a ≡ b → Rests (is_plain a) end point log held held' well → Rests (is_plain b) end point log held held' well
rests_in a b end point log held held' well e r = let P : Style → Type 0 = λ x. Rests (is_plain x) end point log held held' well in subst P e r
