use Rattle.std.proofs.Common.{ap, ◌∙◌}
use Rattle.nesl_lex.specs.declared.token.Kind.TheVariants as kind
use Rattle.nesl_lex.specs.declared.token.Sign.{Sign}
use Rattle.nesl_lex.specs.declared.token.Word.{Word}
use Rattle.nesl_syntax.proofs.Begun.{begun_by, word_line, sign_line, kind_line}
use Rattle.nesl_syntax.proofs.form.line.Goals as goal

pub returns-in-Name : goal.returns-in-Name
returns-in-Name c = begun_by _ _ _ _ c.in-len1-up.len_at_least c.first-item.is c.in-Name.is c.named.ensures

pub returns-in-Function : goal.returns-in-Function
returns-in-Function c = begun_by _ _ _ _ c.in-len1-up.len_at_least c.first-item.is (c.in-Reserved.is ∙ ap (λ (w : Word). kind.Reserved w) c.in-Function.is) c.function.ensures

pub returns-in-Datatype : goal.returns-in-Datatype
returns-in-Datatype c = begun_by _ _ _ _ c.in-len1-up.len_at_least c.first-item.is (c.in-Reserved.is ∙ ap (λ (w : Word). kind.Reserved w) c.in-Datatype.is) c.datatype.ensures

pub returns-in-Colon : goal.returns-in-Colon
returns-in-Colon c = begun_by _ _ _ _ c.in-len1-up.len_at_least c.first-item.is (c.in-Symbol.is ∙ ap (λ (s : Sign). kind.Symbol s) c.in-Colon.is) c.show_type.ensures

pub returns-in_default-word : goal.returns-in_default-word
returns-in_default-word c = word_line _ _ _ _ c.in-len1-up.len_at_least c.first-item.is c.in-Reserved.is c.in_default-word.not-Function c.in_default-word.not-Datatype c.eval-in_default-word.ensures

pub returns-in_default-sign : goal.returns-in_default-sign
returns-in_default-sign c = sign_line _ _ _ _ c.in-len1-up.len_at_least c.first-item.is c.in-Symbol.is c.in_default-sign.not-Colon c.eval-in_default-sign.ensures

pub returns-in_default-kind : goal.returns-in_default-kind
returns-in_default-kind c = kind_line _ _ _ c.in-len1-up.len_at_least c.first-item.is c.in_default-kind.not-Name c.in_default-kind.not-Reserved c.in_default-kind.not-Symbol c.eval-in_default-kind.ensures
