-- How a text is cut into forms, and what is left out between them.
use Rattle.std.specs.Prelude.{ℕ, zero, suc, ◌+◌, ◌==◌, if◌then◌else◌, List, [], ◌∷◌, ◌++◌, length, reverse}
use Rattle.nesl_forms.specs.declared.scan.StretchKind.{StretchKind}
use Rattle.nesl_forms.specs.declared.scan.StretchKind.TheVariants.{LeftOut, Line, Unfinished}
use Rattle.nesl_forms.specs.declared.scan.OpenMark.{OpenMark}
use Rattle.nesl_forms.specs.declared.scan.Within.{Within}
use Rattle.nesl_forms.specs.declared.scan.Within.TheVariants.{Between, Text, Character, Comment, Command, Continued}
use Rattle.nesl_forms.specs.declared.scan.Edge.{Edge}
use Rattle.nesl_forms.specs.declared.scan.Edge.TheVariants.{Inside, Before, After}
use Rattle.nesl_forms.specs.declared.scan.Effect.{Effect}
use Rattle.nesl_forms.specs.declared.text.Stretch.{Stretch}
use Rattle.nesl_forms.specs.declared.cutter.Cutter.{Cutter}
use Rattle.nesl_forms.specs.Bytes.{kind_of}
use Rattle.nesl_forms.specs.Steps.{step, changed, ends_name, takes_semicolon}

-- how far a text is cut: what the next byte is within, what is open there, where the stretch began, and those before it
pub record Reached : Type 0 where
  pub within : Within
  pub opened : List OpenMark
  pub start : ℕ
  pub stretches : List Stretch

-- a stretch of this kind ends before this place, if it has a byte
abbrev pub with_stretch : StretchKind → ℕ → Reached → Reached
with_stretch kind place r =
    if r.start == place then r
    else (record r {
      start = place;
      stretches = r.stretches ++ record { kind = kind; start = r.start; end = place } ∷ [];
    })

abbrev pub with_edge : Edge → ℕ → Reached → Reached
with_edge Inside place r = r
with_edge (Before kind) place r = with_stretch kind place r
with_edge (After kind) place r = with_stretch kind (place + 1) r

-- after a step at this place
abbrev pub stepped : Effect → ℕ → List OpenMark → Reached → Reached
stepped s place opened r = with_edge s.edge place (record r { within = s.within; opened = changed s.change opened })

-- after the byte at this place
abbrev pub after_byte : Reached → ℕ → ℕ → Reached
after_byte r place b =
    let opened = changed (ends_name r.within (kind_of b)) r.opened in
    stepped (step r.within (takes_semicolon opened) (kind_of b)) place opened r

-- after the bytes from this place on
abbrev pub after_bytes : Reached → ℕ → List ℕ → Reached
after_bytes r place [] = r
after_bytes r place (b ∷ bs) = after_bytes (after_byte r place b) (place + 1) bs

-- what the stretch is that the end of the text ends
abbrev pub last_kind : Within → StretchKind
last_kind Between = LeftOut
last_kind Text = Line
last_kind Character = Line
last_kind (Comment a) = Line
last_kind Command = Line
last_kind Continued = Line
last_kind within = Unfinished

abbrev pub at_first : Reached
at_first = record { within = Between; opened = []; start = 0; stretches = [] }

-- the stretches of a text
abbrev pub cut : List ℕ → List Stretch
cut text =
    let r = after_bytes at_first 0 text in
    (with_stretch (last_kind r.within) (length text) r).stretches

abbrev pub reached : Cutter → Reached
reached c = record
    { within = c.within; opened = reverse c.opened.items; start = c.start; stretches = c.stretches.items }
