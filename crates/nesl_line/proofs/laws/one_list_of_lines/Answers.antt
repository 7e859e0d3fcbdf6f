use Rattle.nesl_line.proofs.Unique.{all_lines_one, whole_lines_one}
use Rattle.nesl_line.proofs.laws.one_list_of_lines.Goals as goal

pub returns-clause-all : goal.returns-clause-all
returns-clause-all c = all_lines_one

pub returns-clause-whole : goal.returns-clause-whole
returns-clause-whole c = whole_lines_one
