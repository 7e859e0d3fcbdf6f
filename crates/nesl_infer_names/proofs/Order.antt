-- Unknown names are in the order of the text, since the nodes of a line are.
use Rattle.std.proofs.Common.{ℕ, ◌≤◌, Bool, true, false, List, [], ◌∷◌, ◌++◌, Option, arith}
use Rattle.std.specs.Option.{is_some}
use Rattle.nesl_lex.specs.declared.token.Span.{Span}
use Rattle.nesl_types_shared.specs.Term.{Term}
use Rattle.nesl_syntax_tree.specs.Trees.{Tree, Shape, Trees, Binders, PatternTree, PatternShape, TypeTree, TypeShape, SignatureTree, FormTree, node, pattern, written, none, more, no_binders, binder}
use Rattle.nesl_syntax_tree.specs.Trees as trees
use Rattle.nesl_syntax_tree.specs.Spans.{Item, exp_item, pattern_item, type_item, item_span, items_of, bound_items, body_items, shape_items, pattern_items, type_items, Lined, none_lined, more_lined, Orderly, orderly, signature_items, line_items}
use Rattle.nesl_infer_names.specs.Names.{Names, span_unless_known, unknown_names, unknown_in, all_unknown_names, unknown_in_let, unknown_in_each, unknown_types, unknown_types_in, unknown_records, unknown_records_in, names_bound, all_names_bound}
use Rattle.nesl_infer_names.specs.Order.{Ascends, none_ascend, more_ascend, unknown_in_line}

mutual
  lined_low : {i j : ℕ} {xs : List Item} → Lined i xs j → i ≤ j
  lined_low (none_lined h) = h
  lined_low (more_lined h o r) = let a = orderly_low o in let b = lined_low r in omega arith

  orderly_low : {x : Item} → Orderly x → (item_span x).start ≤ (item_span x).end
  orderly_low (orderly l) = lined_low l

-- nodes in two parts
record Cut (i : ℕ) (xs ys : List Item) (j : ℕ) : Type 0 where
  mid : ℕ
  first : Lined i xs mid
  rest : Lined mid ys j

cut : {i j : ℕ} (xs ys : List Item) → Lined i (xs ++ ys) j → Cut i xs ys j
cut {i = i} [] ys h = record { mid = i; first = none_lined (omega arith); rest = h }
cut (x ∷ xs) ys (more_lined a o r) = let p = cut xs ys r in record { mid = p.mid; first = more_lined a o p.first; rest = p.rest }

front : {i j : ℕ} {x : Item} {xs : List Item} → Lined i (x ∷ xs) j → Cut i (x ∷ []) xs j
front {x = x} (more_lined a o r) = record { mid = (item_span x).end; first = more_lined a o (none_lined (omega arith)); rest = r }

start_from : {i j : ℕ} {ss : List Span} (k : ℕ) → k ≤ i → Ascends i ss j → Ascends k ss j
start_from k h (none_ascend g) = none_ascend (omega arith)
start_from k h (more_ascend g r) = more_ascend (omega arith) r

end_to : {i j : ℕ} {ss : List Span} (k : ℕ) → j ≤ k → Ascends i ss j → Ascends i ss k
end_to k h (none_ascend g) = none_ascend (omega arith)
end_to k h (more_ascend g r) = more_ascend g (end_to k h r)

both : {i m j : ℕ} {ss ts : List Span} → Ascends i ss m → Ascends m ts j → Ascends i (ss ++ ts) j
both (none_ascend g) r = start_from _ g r
both (more_ascend g l) r = more_ascend g (both l r)

-- a span that may be unknown, before others
maybe : {i j : ℕ} {ss : List Span} (b : Bool) (s : Span) → i ≤ s.start → Ascends s.start ss j → Ascends i (span_unless_known b s ++ ss) j
maybe true s h r = start_from _ h r
maybe false s h r = more_ascend h r

maybe_last : {i j : ℕ} (b : Bool) (s : Span) → i ≤ s.start → s.start ≤ j → Ascends i (span_unless_known b s) j
maybe_last true s h g = none_ascend (omega arith)
maybe_last false s h g = more_ascend h (none_ascend g)

module _ (ds : List ℕ → Option (ℕ × Term)) where
  mutual
    type_order : (a : TypeTree) {i j : ℕ} → Lined i (type_item a ∷ []) j → Ascends i (unknown_types ds a) j
    type_order (written s k) (more_lined a (orderly l) (none_lined b)) = start_from _ a (end_to _ b (type_shape_order s k l))

    type_shape_order : (s : Span) (k : TypeShape) → Lined s.start (type_items k) s.end → Ascends s.start (unknown_types_in ds k) s.end
    type_shape_order s trees.int l = none_ascend (lined_low l)
    type_shape_order s trees.bool l = none_ascend (lined_low l)
    type_shape_order s trees.char l = none_ascend (lined_low l)
    type_shape_order s (trees.named x t) (more_lined a o (none_lined b)) = let c = orderly_low o in maybe_last (is_some (ds x)) t a (omega arith)
    type_shape_order s (trees.sequence_type a) l = type_order a l
    type_shape_order s (trees.pair_type a b) l = let c = front l in both (type_order a c.first) (type_order b c.rest)

  mutual
    pattern_order : (p : PatternTree) {i j : ℕ} → Lined i (pattern_item p ∷ []) j → Ascends i (unknown_records ds p) j
    pattern_order (pattern s k) (more_lined a (orderly l) (none_lined b)) = start_from _ a (end_to _ b (pattern_shape_order s k l))

    pattern_shape_order : (s : Span) (k : PatternShape) → Lined s.start (pattern_items k) s.end → Ascends s.start (unknown_records_in ds s k) s.end
    pattern_shape_order s (trees.name_pattern x) l = none_ascend (lined_low l)
    pattern_shape_order s (trees.pair_pattern p q) l = let c = front l in both (pattern_order p c.first) (pattern_order q c.rest)
    pattern_shape_order s (trees.record_pattern x p) l = maybe (is_some (ds x)) s (omega arith) (pattern_order p l)

module _ (ns : Names) where
  -- the body of an apply-to-each
  body_order : (ls : List (List ℕ)) (e : Tree) {i j : ℕ} → ((i j : ℕ) → Lined i (exp_item e ∷ []) j → Ascends i (unknown_names ns ls e) j) → Lined i (body_items e) j → Ascends i (unknown_names ns ls e) j
  body_order ls (node s trees.element) f l = none_ascend (lined_low l)
  body_order ls e f l = f _ _ l

  mutual
    order : (ls : List (List ℕ)) (e : Tree) {i j : ℕ} → Lined i (exp_item e ∷ []) j → Ascends i (unknown_names ns ls e) j
    order ls (node s k) (more_lined a (orderly l) (none_lined b)) = start_from _ a (end_to _ b (shape_order ls s k l))

    shape_order : (ls : List (List ℕ)) (s : Span) (k : Shape) → Lined s.start (shape_items k) s.end → Ascends s.start (unknown_in ns ls s k) s.end
    shape_order ls s (trees.number n) l = none_ascend (lined_low l)
    shape_order ls s (trees.truth b) l = none_ascend (lined_low l)
    shape_order ls s (trees.character c) l = none_ascend (lined_low l)
    shape_order ls s (trees.text bytes) l = none_ascend (lined_low l)
    shape_order ls s (trees.variable x) l = maybe_last _ s (omega arith) (lined_low l)
    shape_order ls s (trees.call f a) l = maybe (is_some (ns.functions f)) s (omega arith) (order ls a l)
    shape_order ls s (trees.pair a b) l = let c = front l in both (order ls a c.first) (order ls b c.rest)
    shape_order ls s (trees.prefix_of o a) l = order ls a l
    shape_order ls s (trees.infix_of o a b) l = let c = front l in both (order ls a c.first) (order ls b c.rest)
    shape_order ls s (trees.index a b) l = let c = front l in both (order ls a c.first) (order ls b c.rest)
    shape_order ls s (trees.choice a b d) l = let c = front l in let g = front c.rest in both (order ls a c.first) (both (order ls b g.first) (order ls d g.rest))
    shape_order ls s (trees.sequence es) l = all_order ls es l
    shape_order ls s (trees.empty a) l = type_order ns.datatypes a l
    shape_order ls s (trees.range a b) l = let c = front l in both (order ls a c.first) (order ls b c.rest)
    shape_order ls s (trees.strided_range a b d) l = let c = front l in let g = front c.rest in both (order ls a c.first) (both (order ls b g.first) (order ls d g.rest))
    shape_order ls s (trees.let_in bs e) l = let c = cut (bound_items bs) (exp_item e ∷ []) l in both (bound_order ls bs c.first) (order (all_names_bound bs ++ ls) e c.rest)
    shape_order ls s (trees.each e bs) l =
        let c = cut (body_items e) (bound_items bs) l in both (body_order (all_names_bound bs ++ ls) e (λ m n h. order (all_names_bound bs ++ ls) e h) c.first) (drawn_order ls bs c.rest)
    shape_order ls s (trees.filtered_each e bs f) l =
        let c = cut (body_items e) (bound_items bs ++ (exp_item f ∷ [])) l in
        let g = cut (bound_items bs) (exp_item f ∷ []) c.rest in
        both (body_order (all_names_bound bs ++ ls) e (λ m n h. order (all_names_bound bs ++ ls) e h) c.first) (both (drawn_order ls bs g.first) (order (all_names_bound bs ++ ls) f g.rest))
    shape_order ls s trees.element l = none_ascend (lined_low l)

    all_order : (ls : List (List ℕ)) (es : Trees) {i j : ℕ} → Lined i (items_of es) j → Ascends i (all_unknown_names ns ls es) j
    all_order ls none l = none_ascend (lined_low l)
    all_order ls (more e es) l = let c = front l in both (order ls e c.first) (all_order ls es c.rest)

    bound_order : (ls : List (List ℕ)) (bs : Binders) {i j : ℕ} → Lined i (bound_items bs) j → Ascends i (unknown_in_let ns ls bs) j
    bound_order ls no_binders l = none_ascend (lined_low l)
    bound_order ls (binder p e bs) l =
        let c = front l in let g = front c.rest in both (pattern_order ns.datatypes p c.first) (both (order ls e g.first) (bound_order (names_bound p ++ ls) bs g.rest))

    drawn_order : (ls : List (List ℕ)) (bs : Binders) {i j : ℕ} → Lined i (bound_items bs) j → Ascends i (unknown_in_each ns ls bs) j
    drawn_order ls no_binders l = none_ascend (lined_low l)
    drawn_order ls (binder p e bs) l =
        let c = front l in let g = front c.rest in both (pattern_order ns.datatypes p c.first) (both (order ls e g.first) (drawn_order ls bs g.rest))

pub line_order : (ns : Names) (l : FormTree) {i j : ℕ} → Lined i (line_items l) j → Ascends i (unknown_in_line ns l) j
line_order ns trees.nothing l = none_ascend (lined_low l)
line_order ns (trees.function x p s e) l =
    let c = front l in
    let g = cut (signature_items s) (exp_item e ∷ []) c.rest in
    both (pattern_order ns.datatypes p c.first) (start_from _ (lined_low g.first) (order ns (names_bound p) e g.rest))
line_order ns (trees.datatype x a) l = type_order ns.datatypes a l
line_order ns (trees.bind x e) l = order ns [] e l
line_order ns (trees.evaluate e) l = order ns [] e l
line_order ns trees.show_names l = none_ascend (lined_low l)
line_order ns trees.show_budget l = none_ascend (lined_low l)
line_order ns (trees.show_type e) l = order ns [] e l
