-- What a byte does to a form that is read.
use Rattle.std.specs.Prelude.{ℕ, ◌==◌, Bool, true, false, if◌then◌else◌, List, [], ◌∷◌}
use Rattle.nesl_forms.specs.declared.bytes.ByteKind.{ByteKind}
use Rattle.nesl_forms.specs.declared.bytes.ByteKind.TheVariants.{LineEnd, Blank, Percent, Quote, Backquote, OpenBracket}
use Rattle.nesl_forms.specs.declared.bytes.ByteKind.TheVariants.{OpenBrace, Close, Semicolon, Backslash, Letter, Digit}
use Rattle.nesl_forms.specs.declared.bytes.ByteKind.TheVariants as kind
use Rattle.nesl_forms.specs.declared.scan.StretchKind.TheVariants.{LeftOut, Whole, Line}
use Rattle.nesl_forms.specs.declared.scan.OpenMark.{OpenMark}
use Rattle.nesl_forms.specs.declared.scan.OpenMark.TheVariants.{Bracket, Items}
use Rattle.nesl_forms.specs.declared.scan.OpenMark.TheVariants as mark
use Rattle.nesl_forms.specs.declared.scan.Spelled.{Spelled}
use Rattle.nesl_forms.specs.declared.scan.Spelled.TheVariants as spelled
use Rattle.nesl_forms.specs.declared.scan.Around.{Around}
use Rattle.nesl_forms.specs.declared.scan.Around.TheVariants as around
use Rattle.nesl_forms.specs.declared.scan.Within.{Within}
use Rattle.nesl_forms.specs.declared.scan.Within.TheVariants.{Between, Form, Name, Colon, Members, Text, Character}
use Rattle.nesl_forms.specs.declared.scan.Within.TheVariants.{Comment, Command, Continued}
use Rattle.nesl_forms.specs.declared.scan.Change.{Change}
use Rattle.nesl_forms.specs.declared.scan.Change.TheVariants.{Keeps, Opens, Closes, ClosesLet, Clears}
use Rattle.nesl_forms.specs.declared.scan.Edge.TheVariants.{Inside, Before, After}
use Rattle.nesl_forms.specs.declared.scan.Effect.{Effect}

-- without the newest bracket or brace, and without each `let` in it
abbrev pub closed : List OpenMark → List OpenMark
closed [] = []
closed (mark.Let ∷ opened) = closed opened
closed (x ∷ opened) = opened

-- what is open after a change, the newest first
abbrev pub changed : Change → List OpenMark → List OpenMark
changed Keeps opened = opened
changed (Opens x) opened = x ∷ opened
changed Closes opened = closed opened
changed ClosesLet (mark.Let ∷ opened) = opened
changed ClosesLet opened = opened
changed Clears opened = []

-- whether a `;` here is between two items or two bindings
abbrev pub takes_semicolon : List OpenMark → Bool
takes_semicolon [] = false
takes_semicolon (Bracket ∷ opened) = false
takes_semicolon (x ∷ opened) = true

-- how much of `let` or `in` a name is with one more letter
abbrev pub spelled_after : Spelled → ℕ → Spelled
spelled_after spelled.L c = if c == 101 then spelled.Le else spelled.Neither
spelled_after spelled.Le c = if c == 116 then spelled.Let else spelled.Neither
spelled_after spelled.I c = if c == 110 then spelled.In else spelled.Neither
spelled_after s c = spelled.Neither

-- and with its first letter
abbrev pub spelled_first : ℕ → Spelled
spelled_first c = if c == 108 then spelled.L else (if c == 105 then spelled.I else spelled.Neither)

-- what the end of a name changes: `let` opens, and `in` closes
abbrev pub change_by : Spelled → Change
change_by spelled.Let = Opens mark.Let
change_by spelled.In = ClosesLet
change_by s = Keeps

abbrev pub goes : Within → Effect
goes within = record { within = within; change = Keeps; edge = Inside }

-- a byte of a form
abbrev pub in_form : Bool → ByteKind → Effect
in_form takes Percent = goes (Comment around.Form)
in_form takes Quote = goes Text
in_form takes Backquote = goes Character
in_form takes OpenBracket = record { within = Form; change = Opens Bracket; edge = Inside }
in_form takes OpenBrace = record { within = Form; change = Opens Items; edge = Inside }
in_form takes Close = record { within = Form; change = Closes; edge = Inside }
in_form true Semicolon = goes Form
in_form false Semicolon = record { within = Between; change = Clears; edge = After Whole }
in_form takes kind.Colon = goes Colon
in_form takes (Letter c) = goes (Name (spelled_first c))
in_form takes k = goes Form

-- a byte between forms: blanks, comments and stray `;` are left out, and any other byte begins a form
abbrev pub between : ByteKind → Effect
between LineEnd = goes Between
between Blank = goes Between
between Semicolon = goes Between
between Percent = record { within = Comment around.Between; change = Keeps; edge = Before LeftOut }
between kind.Colon = record { within = Command; change = Keeps; edge = Before LeftOut }
between k = record (in_form false k) { edge = Before LeftOut }

-- the form ends before this line end
abbrev pub ends_line : Effect
ends_line = record { within = Between; change = Clears; edge = Before Line }

abbrev pub after_comment : Around → Within
after_comment around.Between = Between
after_comment around.Form = Form
after_comment around.Members = Members

-- a byte after letters, digits and `_` of a name
abbrev pub in_name : Spelled → Bool → ByteKind → Effect
in_name s takes (Letter c) = goes (Name (spelled_after s c))
in_name s takes Digit = goes (Name spelled.Neither)
in_name s takes k = in_form takes k

-- a byte after `:`
abbrev pub in_colon : Bool → ByteKind → Effect
in_colon takes kind.Colon = goes Members
in_colon takes k = in_form takes k

-- a byte after `::`
abbrev pub in_members : Bool → ByteKind → Effect
in_members takes LineEnd = goes Members
in_members takes Blank = goes Members
in_members takes Percent = goes (Comment around.Members)
in_members takes OpenBracket = record { within = Form; change = Opens Items; edge = Inside }
in_members takes k = in_form takes k

-- a byte of a text
abbrev pub in_text : ByteKind → Effect
in_text LineEnd = ends_line
in_text Quote = goes Form
in_text k = goes Text

-- a byte after a backquote
abbrev pub in_character : ByteKind → Effect
in_character LineEnd = ends_line
in_character k = goes Form

-- a byte of a comment
abbrev pub in_comment : Around → ByteKind → Effect
in_comment a Percent = goes (after_comment a)
in_comment a k = goes (Comment a)

-- a byte of a command
abbrev pub in_command : ByteKind → Effect
in_command LineEnd = ends_line
in_command Backslash = goes Continued
in_command k = goes Command

-- a byte of a command, after a `\` and blanks
abbrev pub in_continued : ByteKind → Effect
in_continued Blank = goes Continued
in_continued Backslash = goes Continued
in_continued k = goes Command

-- what a byte does, by what it is within. `takes` is whether a `;` here is between two items or two bindings.
abbrev pub step : Within → Bool → ByteKind → Effect
step Between takes k = between k
step Form takes k = in_form takes k
step (Name s) takes k = in_name s takes k
step Colon takes k = in_colon takes k
step Members takes k = in_members takes k
step Text takes k = in_text k
step Character takes k = in_character k
step (Comment a) takes k = in_comment a k
step Command takes k = in_command k
step Continued takes k = in_continued k

-- whether a byte ends the name that it comes after
abbrev pub ends_name : Within → ByteKind → Change
ends_name (Name s) (Letter c) = Keeps
ends_name (Name s) Digit = Keeps
ends_name (Name s) k = change_by s
ends_name within k = Keeps
