-- Replies: the text of each is one line, with its line end.
use Rattle.std.specs.Prelude.{ℕ, true, List, [], ◌∷◌, ◌++◌, map, flat_map, codes, decimal}
use Rattle.nesl_values.specs.View.{tree_of}
use Rattle.nesl_values.specs.Tree.{ValueTree}
use Rattle.nesl_types.specs.declared.classes.Class.{Class}
use Rattle.nesl_types_shared.specs.Term.{Term}
use Rattle.nesl_types.specs.Texts.{type_text, function_text}
use Rattle.nesl_types.specs.declared.bindings.Top.{Top}
use Rattle.nesl_scalars.specs.declared.cost.Cost.{Cost}
use Rattle.nesl_reply.specs.declared.reply.Used.{Used}
use Rattle.nesl_reply.specs.declared.reply.Reply.{Reply}
use Rattle.nesl_reply.specs.declared.fault.Fault.{Fault}
use Rattle.nesl_reply.specs.Faults.{fault_text}
use Rattle.nesl_reply.specs.Values.{DatatypesByTag, datatypes, value_text}

-- ` (work W, depth D)`
abbrev pub cost_text : Cost → List ℕ
cost_text cost = codes " (work " ++ decimal cost.work ++ codes ", depth " ++ decimal cost.depth ++ codes ")"

-- ` N of M`
unfoldable pub used_text : Used → List ℕ
used_text used = codes " " ++ decimal used.used ++ codes " of " ++ decimal used.limit

-- a space before the first and `, ` before each other
abbrev pub names_text : List (List ℕ) → List ℕ
names_text [] = []
names_text (n ∷ ns) = codes " " ++ n ++ flat_map (λ m. codes ", " ++ m) ns

-- the work that is left, and how much is used of each limit: elements, lines, and bytes of lines
abbrev pub budget_text : ℕ → Used → Used → Used → List ℕ
budget_text work elements lines bytes =
    (codes "budget: work " ++ decimal work) ++ (codes ", elements" ++ used_text elements)
    ++ (codes ", lines" ++ used_text lines) ++ (codes ", bytes" ++ used_text bytes)

-- what a reply reports: names, values, types and costs, without their places in memory
pub data Report : Type 0 where
  bound : (name : List ℕ) (value : ValueTree) (type : Term) (cost : Cost) → Report
  function : (name : List ℕ) (argument result : Term) (classes : List Class) → Report
  datatype : (name : List ℕ) (content : Term) → Report
  names : Report
  budget : (work : ℕ) (elements lines bytes : Used) → Report
  shown : (type : Term) → Report
  blank : Report
  more : Report
  cleared : (lines : ℕ) → Report
  refused : Fault → Report

-- the text of a report, with the datatypes and the names of a session
abbrev pub report_text : DatatypesByTag → List (List ℕ) → Report → List ℕ
report_text known all (bound x v t cost) =
    x ++ codes " = " ++ value_text known true t v ++ codes " : " ++ type_text known.name true t ++ cost_text cost
report_text known all (function x t u classes) = x ++ codes " : " ++ function_text known.name t u classes
report_text known all (datatype x t) = x ++ codes " : " ++ type_text known.name true t ++ codes " -> " ++ x
report_text known all names = codes "names:" ++ names_text all
report_text known all (budget work elements lines bytes) = budget_text work elements lines bytes
report_text known all (shown t) = codes "type: " ++ type_text known.name true t
report_text known all blank = codes "ok"
report_text known all more = codes "more"
report_text known all (cleared lines) = codes "reset: lines " ++ decimal lines
report_text known all (refused fault) = fault_text fault

-- what a reply of the code reports
abbrev pub report_of : Reply → Report
report_of (Reply.Bound name value ty cost) = bound name.now (tree_of value.now) ty.now cost
report_of (Reply.FunTold name scheme) =
    function name.now scheme.now.argument scheme.now.result scheme.now.classes.items
report_of (Reply.DatatypeTold name ty) = datatype name.now ty.now
report_of Reply.Names = names
report_of (Reply.Budget work elements lines bytes) = budget work elements lines bytes
report_of (Reply.Shown ty) = shown ty.now
report_of Reply.Blank = blank
report_of Reply.More = more
report_of (Reply.Cleared lines) = cleared lines
report_of (Reply.Refused fault) = refused fault

module _ {P : Type 0} where
  -- the text of a reply without its line end, with the names of a session
  abbrev pub reply_line : List (List ℕ × Top × P) → Reply → List ℕ
  reply_line context reply = report_text (datatypes context) (map (λ b. b.0) context) (report_of reply)

  abbrev pub reply_text : List (List ℕ × Top × P) → Reply → List ℕ
  reply_text context reply = reply_line context reply ++ codes "\n"
