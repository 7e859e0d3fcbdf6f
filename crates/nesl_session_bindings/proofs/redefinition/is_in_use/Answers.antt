use Rattle.std.proofs.Common.{◌≡◌, Some, None, ap}
use Rattle.nesl_types.specs.Names.{found}
use Rattle.nesl_eval_sound.specs.Lines.{is_type}
use Rattle.nesl_session_bindings.specs.Stored.{kind_of}
use Rattle.nesl_session_bindings.proofs.Refusals.{kept_none, kept_other, kept_datatype}
use Rattle.nesl_session_bindings.proofs.redefinition.is_in_use.Goals as goal

pub returns-in-None : goal.returns-in-None
returns-in-None c =
    let none : None ≡ found c.args._name.now c.args._env.now = rw c.in-None.is at c.requires.stands in
    kept_none c.args._env.now c.requires.fit c.args._name.now (kind_of c.args.kind) none

pub returns-in-Variable : goal.returns-in-Variable
returns-in-Variable c =
    let some : Some (c.in-Some.top.now, c.in-Some.field-0-1.now) ≡ found c.args._name.now c.args._env.now = rw c.in-Some.is at c.requires.stands in
    kept_other c.args._env.now c.requires.fit c.args._name.now (kind_of c.args.kind) c.in-Some.top.now c.in-Some.field-0-1.now some (ap is_type c.in-Variable.is) c.is_datatype.result c.is_datatype.ensures

pub returns-in-Function : goal.returns-in-Function
returns-in-Function c =
    let some : Some (c.in-Some.top.now, c.in-Some.field-0-1.now) ≡ found c.args._name.now c.args._env.now = rw c.in-Some.is at c.requires.stands in
    kept_other c.args._env.now c.requires.fit c.args._name.now (kind_of c.args.kind) c.in-Some.top.now c.in-Some.field-0-1.now some (ap is_type c.in-Function.is) c.is_datatype-in-Function.result c.is_datatype-in-Function.ensures

pub returns-in-Datatype : goal.returns-in-Datatype
returns-in-Datatype c =
    let some : Some (c.in-Some.top.now, c.in-Some.field-0-1.now) ≡ found c.args._name.now c.args._env.now = rw c.in-Some.is at c.requires.stands in
    kept_datatype c.args._env.now c.requires.fit c.args._name.now (kind_of c.args.kind) c.in-Some.top.now c.in-Some.field-0-1.now some (ap is_type c.in-Datatype.is)
