use Rattle.nesl_tests_runs.proofs.pools.put_asks.Given as goal

abbrev pub ghosts-of_three : goal.ghosts-of_three
ghosts-of_three g a = record { name = a.blank.name; parts = a.blank.parts }

abbrev pub ghosts-of_none : goal.ghosts-of_none
ghosts-of_none g a = record { name = a.blank.name; parts = a.blank.parts }

abbrev pub ghosts-of_closed : goal.ghosts-of_closed
ghosts-of_closed g a = record { name = a.blank.name; parts = a.blank.parts }
