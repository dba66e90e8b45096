use Rattle.call_command.proofs.OneForm as forms
use Rattle.call_command.proofs.words.one_form.Goals as goal

pub returns : goal.returns
returns c = forms.one_form
