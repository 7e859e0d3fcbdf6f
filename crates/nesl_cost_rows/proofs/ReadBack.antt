-- A cost that is written down is read as its charges and its path.
use Rattle.std.proofs.Common.{◌≡◌, ℕ, suc, ◌+◌, ◌<◌, ◌≤◌, refl, sym, ◌∙◌, ap, arith, List, [], ◌∷◌, ◌++◌, append_assoc, append-nil, map, length, get_or, drop, drop-cons, Option, Some, None}
use Rattle.std.specs.Prelude.{reverse, nat_le, if◌then◌else◌}
use Rattle.std.proofs.lemmas.List.{map-append, reverse-append, drop_all}
use Rattle.nesl_lex.specs.declared.token.Span.{Span}
use Rattle.nesl_eval_meaning.specs.Names.{Name}
use Rattle.nesl_cost_meaning.specs.Cost as cost
use Rattle.nesl_cost_meaning.specs.Cost.{Cost, decision, charges, path, depths, depth_in}
use Rattle.nesl_cost_meaning.proofs.Sums.{sums_up}
use Rattle.nesl_cost_rows.specs.declared.trace.Mark.{Mark}
use Rattle.nesl_cost_rows.specs.Written.{Note, others, turned, returned, written, note_of}
use Rattle.nesl_cost_rows.specs.declared.charge.Charge.{Charge}
use Rattle.nesl_cost_rows.specs.Charges.{charge_of}
use Rattle.nesl_cost_rows.specs.Readings.{State, state, read_on, step, deeper_of, set_apart, joined, inside, outside}

-- the newest one of a list
pub newest : {X Y : Type 0} (f : X → Y) (xs : List X) (x : X) → reverse (map f (xs ++ x ∷ [])) ≡ f x ∷ reverse (map f xs)
newest f xs x = ap reverse (map-append f xs (x ∷ [])) ∙ reverse-append (map f xs) (f x ∷ [])

pub same_state : (h : Option Name) (hs : List (Option Name)) {cs ds p q : List cost.Charge} (ps : List (List cost.Charge)) → cs ≡ ds → p ≡ q → state h hs cs p ps ≡ state h hs ds q ps
same_state h hs {cs} {ds} {p} {q} ps e f = ap (λ l. state h hs l p ps) e ∙ ap (λ l. state h hs ds l ps) f

deepest : (h : Option Name) (s : Span) (i : ℕ) (c e : Cost) → deeper_of (decision h s i ∷ path h c) (path h e) ≡ path h (cost.turn s i c e)
deepest h s i c e =
    let own : depths (decision h s i ∷ path h c) ≡ depth_in c = omega (arith, (sums_up h c).1) in
    ap (λ n. if nat_le n (depths (decision h s i ∷ path h c)) then decision h s i ∷ path h c else path h e) (sums_up h e).1
    ∙ ap (λ n. if nat_le (depth_in e) n then decision h s i ∷ path h c else path h e) own

reads_written : (c : Cost) (ns : List Note) (h : Option Name) (hs : List (Option Name)) (cs p : List cost.Charge) (ps : List (List cost.Charge)) →
    read_on (written c ++ ns) (state h hs cs p ps) ≡ read_on ns (state h hs (cs ++ charges h c) (p ++ path h c) ps)
reads_written cost.free ns h hs cs p ps = ap (read_on ns) (same_state h hs ps (sym (append-nil cs)) (sym (append-nil p)))
reads_written (cost.entered s) ns h hs cs p ps = refl
reads_written (cost.besides s w d) ns h hs cs p ps = refl
reads_written (cost.after c e) ns h hs cs p ps =
    ap (λ l. read_on l (state h hs cs p ps)) (append_assoc (written c) (written e) ns)
    ∙ reads_written c (written e ++ ns) h hs cs p ps
    ∙ reads_written e ns h hs (cs ++ charges h c) (p ++ path h c) ps
    ∙ ap (read_on ns) (same_state h hs ps (append_assoc cs (charges h c) (charges h e)) (append_assoc p (path h c) (path h e)))
reads_written (cost.turn s i c e) ns h hs cs p ps =
    let d = decision h s i in
    let end = turned ∷ ns in
    ap (λ l. read_on l (state h hs cs (d ∷ []) (p ∷ ps))) (append_assoc (written c) (others ∷ (written e ++ (turned ∷ []))) ns)
    ∙ reads_written c (others ∷ ((written e ++ (turned ∷ [])) ++ ns)) h hs cs (d ∷ []) (p ∷ ps)
    ∙ ap (λ l. read_on l (state h hs (cs ++ charges h c) [] ((d ∷ path h c) ∷ (p ∷ ps)))) (append_assoc (written e) (turned ∷ []) ns)
    ∙ reads_written e end h hs (cs ++ charges h c) [] ((d ∷ path h c) ∷ (p ∷ ps))
    ∙ ap (read_on ns) (same_state h hs ps (append_assoc cs (charges h c) (charges h e)) (ap (λ l. p ++ l) (deepest h s i c e)))
reads_written (cost.called x s c) ns h hs cs p ps =
    ap (λ l. read_on l (state (Some x) (h ∷ hs) cs p ps)) (append_assoc (written c) (returned ∷ []) ns)
    ∙ reads_written c (returned ∷ ns) (Some x) (h ∷ hs) cs p ps

abbrev pub nothing_read : State
nothing_read = state None [] [] [] []

-- all of a cost, from its first note on
pub reads_cost : (c : Cost) → read_on (written c) nothing_read ≡ state None [] (charges None c) (path None c) []
reads_cost c = ap (λ l. read_on l nothing_read) (sym (append-nil (written c))) ∙ reads_written c [] None [] [] [] []

-- the notes that are left
abbrev pub notes_from : ℕ → List Mark → List Note
notes_from i ms = map note_of (drop i ms)

pub next_note : (ms : List Mark) (i : ℕ) (m : Mark) (st : State) → i < length ms → m ≡ get_or ms i m →
    read_on (notes_from i ms) st ≡ read_on (notes_from (i + 1) ms) (step (note_of m) st)
next_note ms i m st l e =
    let one : suc i ≡ i + 1 = omega arith in
    ap (λ y. read_on (map note_of y) st) (drop-cons ms i m l ∙ ap (λ y. y ∷ drop (suc i) ms) (sym e) ∙ ap (λ n. m ∷ drop n ms) one)

pub no_note : (ms : List Mark) (i : ℕ) (st : State) → length ms ≤ i → read_on (notes_from i ms) st ≡ st
no_note ms i st l = ap (λ y. read_on (map note_of y) st) (drop_all i ms l)

pub depths_both : (xs ys : List Charge) → depths (map charge_of (xs ++ ys)) ≡ depths (map charge_of xs) + depths (map charge_of ys)
depths_both [] ys = omega arith
depths_both (x ∷ xs) ys = omega (arith, depths_both xs ys)

pub depths_more : (xs : List Charge) (x : Charge) → depths (map charge_of (xs ++ x ∷ [])) ≡ depths (map charge_of xs) + x.depth
depths_more xs x = omega (arith, depths_both xs (x ∷ []))

-- one more of a list, whose newest one is first
pub one_newer : {X Y : Type 0} (f : X → Y) (new old : List X) (x : X) → new ≡ old ++ x ∷ [] → reverse (map f new) ≡ f x ∷ reverse (map f old)
one_newer f new old x e = ap (λ l. reverse (map f l)) e ∙ newest f old x

pub set_aside : (h : Option Name) (hs : List (Option Name)) (cs p q : List cost.Charge) (ps ws : List (List cost.Charge)) → ws ≡ q ∷ ps →
    state h hs cs p ws ≡ set_apart p (state h hs cs q ps)
set_aside h hs cs p q ps ws e = ap (λ l. state h hs cs p l) e

pub joined_here : (h : Option Name) (hs : List (Option Name)) (cs p q t b : List cost.Charge) (ps ws : List (List cost.Charge)) → ws ≡ t ∷ (b ∷ ps) → p ≡ b ++ deeper_of t q →
    state h hs cs p ps ≡ joined (state h hs cs q ws)
joined_here h hs cs p q t b ps ws e f = ap (λ l. state h hs cs l ps) f ∙ sym (ap (λ l. joined (state h hs cs q l)) e)

pub gone_inside : (h : Option Name) (x : Name) (hs gs : List (Option Name)) (cs p : List cost.Charge) (ps : List (List cost.Charge)) → gs ≡ h ∷ hs →
    state (Some x) gs cs p ps ≡ inside x (state h hs cs p ps)
gone_inside h x hs gs cs p ps e = ap (λ l. state (Some x) l cs p ps) e

pub gone_outside : (h k : Option Name) (hs gs : List (Option Name)) (cs p : List cost.Charge) (ps : List (List cost.Charge)) → gs ≡ h ∷ hs →
    state h hs cs p ps ≡ outside (state k gs cs p ps)
gone_outside h k hs gs cs p ps e = sym (ap (λ l. outside (state k l cs p ps)) e)
