-- Steps of the code.
use Rattle.std.proofs.Common.{◌≡◌, suc, ◌≤◌, ◌<◌, List, [], ◌∷◌, length, reverse, Option, Some, None, Result, Ok, Err, refl, ap, sym, subst, ◌∙◌, arith}
use Rattle.std.specs.Option.{option_and_then}
use Rattle.std.proofs.lemmas.Bool.{lt-leb}
use Rattle.std.proofs.lemmas.List.{reverse-reverse}
use Rattle.nesl_lex.specs.Tokens.{Placed}
use Rattle.nesl_lex.specs.declared.token.Span.{Span}
use Rattle.nesl_syntax_open.specs.declared.mode.Mode.{Mode}
use Rattle.nesl_syntax_open.specs.declared.pending.Pending.{Pending}
use Rattle.nesl_syntax_open.specs.declared.pending.Opening.{Opening}
use Rattle.nesl_syntax_open.specs.declared.pending.TypeOpening.{TypeOpening}
use Rattle.nesl_syntax_open.specs.declared.pending.TypeOpening.TheVariants as types
use Rattle.nesl_syntax_tree.specs.declared.parts.part.Part.{Part}
use Rattle.nesl_syntax_open.specs.declared.fault.ParseFault.{ParseFault}
use Rattle.nesl_syntax_open.specs.declared.fault.ParseFault.TheVariants.{Syntax, Nested, Memory}
use Rattle.nesl_syntax_open.specs.Modes.{SeesMode, Follows}
use Rattle.nesl_syntax_tree.specs.declared.parts.types.TypePart.{TypePart}
use Rattle.nesl_syntax_tree.specs.Trees.{Tree, TypeTree, type_on}
use Rattle.nesl_syntax_tree.specs.Grammar.{spanning}
use Rattle.nesl_syntax_open.specs.Machine as machine
use Rattle.nesl_syntax_tree.specs.Parts.{Sees, SeesType}
use Rattle.nesl_syntax_open.specs.Stack.{SeesOpening, SeesEach, SeesStack}
use Rattle.nesl_syntax_tree.specs.Grammar.{level_of}
use Rattle.nesl_syntax_tree.specs.Made.{type_pair}
use Rattle.nesl_syntax_open.specs.Machine.{round, call, binders, list, Waiting, open_at, comma_behind, else_behind, body_of, prefix_at, sign_behind, type_at, opening_wants, wanted, before, State, opened, separated, run, step, on_both, alone, type_alone, type_closed, type_comma, type_done, taken_up, turned, marked, listed, with_newest}
use Rattle.nesl_syntax.specs.Steps.{list_newest, Runs, Closes, OpeningPopped, newest_opening, TypePopped, newest_type}
use Rattle.nesl_syntax_open.proofs.Complete.{level_low}

pub near_comma : (ws : List Waiting) (e : Tree) → wanted ws ≤ 1 → separated ws e ≡ opened (comma_behind e) ws
near_comma [] e h = absurd (omega arith)
near_comma (open_at (list s xs) ∷ ws) e h = absurd (omega arith)
near_comma (w ∷ ws) e h = refl

pub far_comma : (ws : List Waiting) (e : Tree) → 1 < wanted ws → separated ws e ≡ list_newest ws e
far_comma [] e h = refl
far_comma (open_at (round s) ∷ ws) e h = absurd (omega arith)
far_comma (open_at (call x s) ∷ ws) e h = absurd (omega arith)
far_comma (open_at (binders g bs) ∷ ws) e h = refl
far_comma (comma_behind a ∷ ws) e h = absurd (omega arith)
far_comma (sign_behind o a ∷ ws) e h = rw (lt-leb (suc (level_of o)) 1 (omega (arith, level_low o)))
far_comma (type_at o ∷ ws) e h = absurd (omega arith)
far_comma (w ∷ ws) e h = refl

stepped : (new : List Pending) (mode : Mode) (rest all : List Placed) (start : State) (o : Option State) → Follows (Ok mode) new o → option_and_then (λ (q : State). run q rest) o ≡ run start all → Runs new mode rest all start
stepped new mode rest all start None f h = absurd f
stepped new mode rest all start (Some q) f h = record { waiting = q.0; now = q.1; stack = f.0; sees = f.1; same = h }

pub run_turn : (old new : List Pending) (mode next : Mode) (t : Placed) (rest all : List Placed) (start : State) → ((ws : List Waiting) (m : machine.Mode) → SeesStack old ws → SeesMode mode m → Follows (Ok next) new (step ws m t)) → Runs old mode (t ∷ rest) all start → Runs new next rest all start
run_turn old new mode next t rest all start f r = stepped new next rest all start (step r.waiting r.now t) (f r.waiting r.now r.stack r.sees) r.same

failed : (e : ParseFault) (new : List Pending) (rest all : List Placed) (start : State) (o : Option State) → Follows (Err e) new o → option_and_then (λ (q : State). run q rest) o ≡ run start all → Follows (Err e) new (run start all)
failed Syntax new rest all start o f h = sym h ∙ ap (option_and_then (λ (q : State). run q rest)) f
failed Nested new rest all start o f h = absurd f
failed Memory new rest all start o f h = tt

pub run_fails : (old new : List Pending) (mode : Mode) (e : ParseFault) (t : Placed) (rest all : List Placed) (start : State) → ((ws : List Waiting) (m : machine.Mode) → SeesStack old ws → SeesMode mode m → Follows (Err e) new (step ws m t)) → Runs old mode (t ∷ rest) all start → Follows (Err e) new (run start all)
run_fails old new mode e t rest all start f r = failed e new rest all start (step r.waiting r.now t) (f r.waiting r.now r.stack r.sees) r.same

pub run_ends : (ps : List Pending) (mode : Mode) (all : List Placed) (start : State) → Runs ps mode [] all start → Follows (Ok mode) ps (run start all)
run_ends ps mode all start r = subst (λ (z : Option State). Follows (Ok mode) ps z) r.same (r.stack, r.sees)

each_of_none : (ps : List Pending) → SeesEach ps [] → ps ≡ []
each_of_none [] h = refl
each_of_none (p ∷ ps) h = absurd h

alone_where : (ps : List Pending) (ws : List Waiting) (x : Tree) → SeesStack ps ws → 0 < length ps → alone ws x ≡ None
alone_where ps [] x s h = let e : ps ≡ [] = sym (reverse-reverse ps) ∙ ap reverse (each_of_none (reverse ps) s.each) in absurd (omega (arith, ap length e))
alone_where ps (w ∷ ws) x s h = refl

pub alone_none : (ps : List Pending) (r : List Waiting × Tree) → SeesStack ps r.0 → 0 < length ps → on_both alone r ≡ None
alone_none ps r s h = alone_where ps r.0 r.1 s h

pub type_alone_none : (ps : List Pending) (ws : List Waiting) (a : TypeTree) → SeesStack ps ws → 0 < length ps → type_alone ws a ≡ None
type_alone_none ps [] a s h = let e : ps ≡ [] = sym (reverse-reverse ps) ∙ ap reverse (each_of_none (reverse ps) s.each) in absurd (omega (arith, ap length e))
type_alone_none ps (w ∷ ws) a s h = refl

-- a comma is put together with the type after it
pair_closes : (t : Span) (mid : List Pending) (left r : TypePart) (ws : List Waiting) (a : TypeTree) → TypePopped (Some (types.Comma left)) mid (newest_type ws) → ((b : TypeTree) → SeesType left b → SeesType r (type_pair b a)) → Closes t ws a mid r
pair_closes t mid left r [] a h put = absurd h
pair_closes t mid left r (type_at o ∷ ws) a h put =
    let k = h.0 in
    record {
      now = ws;
      last = type_pair k.0 a;
      stack = h.1;
      sees = put k.0 k.2;
      same = sym (ap (λ (y : machine.TypeOpening). type_closed (type_at y ∷ ws) t a) k.1);
    }
pair_closes t mid left r (w ∷ ws) a h put = absurd h

pub closes_turn : (t : Span) (old mid : List Pending) (left part r : TypePart) (ws : List Waiting) (a : TypeTree)
    → ((vs : List Waiting) → SeesStack old vs → TypePopped (Some (types.Comma left)) mid (newest_type vs)) → ((b c : TypeTree) → SeesType left b → SeesType part c → SeesType r (type_pair b c)) → Closes t ws a old part → Closes t ws a mid r
closes_turn t old mid left part r ws a popped put f =
    let g = pair_closes t mid left r f.now f.last (popped f.now f.stack) (λ b h. put b f.last h f.sees) in
    record { now = g.now; last = g.last; stack = g.stack; sees = g.sees; same = g.same ∙ f.same }

-- one more element of the newest list
pub list_follows : (mid new : List Pending) (opening : Opening) (part : Part) (r : Result Mode ParseFault) (ws : List Waiting) (x : Tree) → OpeningPopped (Some opening) mid (newest_opening ws)
    → ((vs : List Waiting) (o : machine.Opening) (y : Tree) → SeesStack mid vs → SeesOpening opening o → Sees part y → Follows r new (with_newest before vs (listed o y)))
    → Sees part x → 1 < wanted ws → Follows r new (separated ws x)
list_follows mid new opening part r [] x h f p far = absurd h
list_follows mid new opening part r (open_at o ∷ ws) x h f p far = rw (far_comma (open_at o ∷ ws) x far) (f ws o x h.1 h.0 p)
list_follows mid new opening part r (w ∷ ws) x h f p far = absurd h

-- a ( is closed
round_ends : (t u : Span) (mid new : List Pending) (wide : TypePart) (given : Result Mode ParseFault) (ws : List Waiting) (a : TypeTree) → TypePopped (Some (types.Round u)) mid (newest_type ws) → SeesType wide (type_on (spanning u t) a)
    → ((vs : List Waiting) (b : TypeTree) → SeesStack mid vs → SeesType wide b → Follows given new (Some (type_done vs b)))
    → Follows given new (type_closed ws t a)
round_ends t u mid new wide given [] a h p f = absurd h
round_ends t u mid new wide given (type_at o ∷ ws) a h p f = rw h.0 (f ws (type_on (spanning u t) a) h.1 p)
round_ends t u mid new wide given (w ∷ ws) a h p f = absurd h

pub round_closes : (t u : Span) (old mid new : List Pending) (part wide : TypePart) (given : Result Mode ParseFault) (ws : List Waiting) (a : TypeTree)
    → ((vs : List Waiting) → SeesStack old vs → TypePopped (Some (types.Round u)) mid (newest_type vs))
    → ((b : TypeTree) → SeesType part b → SeesType wide (type_on (spanning u t) b))
    → ((vs : List Waiting) (b : TypeTree) → SeesStack mid vs → SeesType wide b → Follows given new (Some (type_done vs b)))
    → Closes t ws a old part → Follows given new (type_closed ws t a)
round_closes t u old mid new part wide given ws a popped widen f c =
    subst (λ (z : Option State). Follows given new z) c.same (round_ends t u mid new wide given c.now c.last (popped c.now c.stack) (widen c.last c.sees) f)

-- no other type opening is closed so
no_close : (t : Span) (mid : List Pending) (p : TypeOpening) (ws : List Waiting) (a : TypeTree) → TypePopped (Some p) mid (newest_type ws) → ((u : Span) → p ≡ types.Round u → ⊥) → ((q : TypePart) → p ≡ types.Comma q → ⊥) → type_closed ws t a ≡ None
no_close t mid p [] a h i j = absurd h
no_close t mid (types.Empty s) (type_at o ∷ ws) a h i j = rw h.0 refl
no_close t mid (types.List s) (type_at o ∷ ws) a h i j = rw h.0 refl
no_close t mid (types.Round s) (type_at o ∷ ws) a h i j = absurd (i s refl)
no_close t mid (types.Comma q) (type_at o ∷ ws) a h i j = absurd (j q refl)
no_close t mid p (w ∷ ws) a h i j = absurd h

pub none_closes : (t : Span) (old mid : List Pending) (opening : TypeOpening) (part : TypePart) (ws : List Waiting) (a : TypeTree)
    → ((vs : List Waiting) → SeesStack old vs → TypePopped (Some opening) mid (newest_type vs)) → ((u : Span) → opening ≡ types.Round u → ⊥) → ((p : TypePart) → opening ≡ types.Comma p → ⊥)
    → Closes t ws a old part → type_closed ws t a ≡ None
none_closes t old mid opening part ws a popped i j c = sym c.same ∙ no_close t mid opening c.now c.last (popped c.now c.stack) i j

not_closed : (t : Span) (ws : List Waiting) (a : TypeTree) → newest_type ws ≡ None → type_closed ws t a ≡ None
not_closed t [] a h = refl
not_closed t (type_at o ∷ ws) a h = cc
not_closed t (w ∷ ws) a h = refl

pub other_closes : (t : Span) (old : List Pending) (part : TypePart) (ws : List Waiting) (a : TypeTree) → ((vs : List Waiting) → SeesStack old vs → newest_type vs ≡ None) → Closes t ws a old part → type_closed ws t a ≡ None
other_closes t old part ws a popped c = sym c.same ∙ not_closed t c.now c.last (popped c.now c.stack)
