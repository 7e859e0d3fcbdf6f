-- What the code's parts mean: a tree, or that the tree is too high to be built.
use Rattle.std.specs.Prelude.{◌≡◌, ◌≤◌, ◌<◌, Option, Some, None}
use Rattle.nesl_syntax_tree.specs.declared.parts.part.Part.{Part}
use Rattle.nesl_syntax_tree.specs.declared.parts.part.Part.TheVariants as part
use Rattle.nesl_syntax_tree.specs.declared.parts.lists.Elements.{Elements}
use Rattle.nesl_syntax_tree.specs.declared.parts.lists.Elements.TheVariants as elements
use Rattle.nesl_syntax_tree.specs.declared.parts.lists.Bindings.{Bindings}
use Rattle.nesl_syntax_tree.specs.declared.parts.lists.Bindings.TheVariants as bindings
use Rattle.nesl_syntax_tree.specs.declared.parts.pattern.PatternPart.{PatternPart}
use Rattle.nesl_syntax_tree.specs.declared.parts.pattern.PatternPart.TheVariants as patterns
use Rattle.nesl_syntax_tree.specs.declared.parts.types.TypePart.{TypePart}
use Rattle.nesl_syntax_tree.specs.declared.parts.types.TypePart.TheVariants as types
use Rattle.nesl_syntax_tree.specs.Trees.{Tree, Trees, Binders, PatternTree, TypeTree, height, greatest_height}
use Rattle.nesl_syntax_tree.specs.Trees.{greatest_binder_height}
use Rattle.nesl_syntax_tree.specs.Trees.{pattern_height, type_height}
use Rattle.nesl_syntax_tree.specs.Views.{tree_of, trees_in, binders_in, type_tree}
use Rattle.nesl_syntax_tree.specs.Patterns.{is_pattern, pattern_in}

abbrev pub Sees : Part → Tree → Type 0
Sees (part.Built b h e) t = (tree_of e.value ≡ t) × (h ≡ height t) × (h ≤ 100) × (b ≡ is_pattern t)
Sees (part.High b) t = (100 < height t) × (b ≡ is_pattern t)

abbrev pub SeesBody : Option Part → Option Tree → Type 0
SeesBody (Some p) (Some t) = Sees p t
SeesBody None None = Unit {0}
SeesBody _ _ = ⊥

abbrev pub SeesAll : Elements → Trees → Type 0
SeesAll (elements.Built h v) ts = (trees_in v.items ≡ ts) × (h ≡ greatest_height ts) × (h ≤ 100)
SeesAll elements.High ts = 100 < greatest_height ts

abbrev pub SeesBound : Bindings → Binders → Type 0
SeesBound (bindings.Built h v) bs = (binders_in v.items ≡ bs) × (h ≡ greatest_binder_height bs) × (h ≤ 100)
SeesBound bindings.High bs = 100 < greatest_binder_height bs

abbrev pub SeesPattern : PatternPart → PatternTree → Type 0
SeesPattern (patterns.Built h e) t = (pattern_in (tree_of e.value) ≡ Some t) × (h ≡ pattern_height t) × (h ≤ 100)
SeesPattern patterns.High t = 100 < pattern_height t

abbrev pub SeesType : TypePart → TypeTree → Type 0
SeesType (types.Built h a) t = (type_tree a.value ≡ t) × (h ≡ type_height t) × (h ≤ 100)
SeesType types.High t = 100 < type_height t

-- the pattern that a call returned, and the one that the tokens have
abbrev pub PatternGiven : Option PatternPart → Option PatternTree → Type 0
PatternGiven (Some p) (Some t) = SeesPattern p t
PatternGiven None None = Unit {0}
PatternGiven _ _ = ⊥
