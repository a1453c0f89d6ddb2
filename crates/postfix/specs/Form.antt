-- The form of an argument, as the code has it.
use Rattle.grammar.specs.Judge.{Form, Name, Text, FoldCase, Other}
use Rattle.postfix.specs.declared.packed.Form as code
use Rattle.postfix.specs.declared.packed.Form.TheVariants as form

abbrev pub form_of : code.Form → Form
form_of form.Other = Other
form_of form.Name = Name
form_of form.Text = Text
form_of form.Folding = FoldCase
