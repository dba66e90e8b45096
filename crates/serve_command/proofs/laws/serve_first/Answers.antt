use Rattle.serve_command.proofs.laws.serve_first.Goals as goal

pub returns : goal.returns
returns c = λ words command f. (f.form.0, f.form.1)
