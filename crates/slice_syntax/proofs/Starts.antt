-- What the rules of Slice begin with.
use Rattle.std.proofs.Common.{◌≡◌, true, false, List, [], ◌∷◌, refl, ap, ◌∙◌}
use Rattle.slice_syntax.specs.declared.terminal.Terminal.{Terminal}
use Rattle.slice_syntax.specs.declared.terminal.Terminal.TheVariants as terminals
use Rattle.slice_syntax.specs.Lexemes.{Lexemes, begins}
use Rattle.slice_syntax.specs.Grammar.{Grammar, or}
use Rattle.slice_syntax.specs.Reading.{starts, read}
use Rattle.slice_syntax.specs.Terminals.{word_bool, word_byte, word_short, word_int, word_long, word_float, word_double, word_string, word_value, word_object, word_optional, word_idempotent, word_void, word_out, word_const, word_enum, word_struct, word_sequence, word_dictionary, word_class, word_exception, colons, open_square}
use Rattle.slice_syntax.specs.Rules.{word, name, texts, file_metadata, metadata, names, scoped, plain_type, object_type, named_type, type_word, signed_number, number, text, truth, named, value, given, tag, close, constant_item, entry, entry_comma, entries, enum_item, member, members, struct_item, sequence_item, dictionary_item, tagged_member, tagged_members, body, base, compact, class_body, class_item, exception_item, paths, bases, thrown, parameter, parameter_list, parameters, answered, operation, operations, interface_body, interface_item, definition}

pub starts_member : starts member ≡ open_square ∷ word_bool ∷ word_byte ∷ word_short ∷ word_int ∷ word_long ∷ word_float ∷ word_double ∷ word_string ∷ word_value ∷ word_object ∷ colons ∷ terminals.Word ∷ []
unfolding word name texts file_metadata metadata names scoped plain_type object_type named_type type_word signed_number number text truth named value given tag close constant_item entry entry_comma entries enum_item member members struct_item sequence_item dictionary_item tagged_member tagged_members body base compact class_body class_item exception_item paths bases thrown parameter parameter_list parameters answered operation operations interface_body interface_item definition
starts_member = refl

pub starts_tagged_member : starts tagged_member ≡ open_square ∷ word_optional ∷ word_bool ∷ word_byte ∷ word_short ∷ word_int ∷ word_long ∷ word_float ∷ word_double ∷ word_string ∷ word_value ∷ word_object ∷ colons ∷ terminals.Word ∷ []
unfolding word name texts file_metadata metadata names scoped plain_type object_type named_type type_word signed_number number text truth named value given tag close constant_item entry entry_comma entries enum_item member members struct_item sequence_item dictionary_item tagged_member tagged_members body base compact class_body class_item exception_item paths bases thrown parameter parameter_list parameters answered operation operations interface_body interface_item definition
starts_tagged_member = refl

pub starts_operation : starts operation ≡ open_square ∷ word_idempotent ∷ word_void ∷ word_optional ∷ word_bool ∷ word_byte ∷ word_short ∷ word_int ∷ word_long ∷ word_float ∷ word_double ∷ word_string ∷ word_value ∷ word_object ∷ colons ∷ terminals.Word ∷ []
unfolding word name texts file_metadata metadata names scoped plain_type object_type named_type type_word signed_number number text truth named value given tag close constant_item entry entry_comma entries enum_item member members struct_item sequence_item dictionary_item tagged_member tagged_members body base compact class_body class_item exception_item paths bases thrown parameter parameter_list parameters answered operation operations interface_body interface_item definition
starts_operation = refl

pub starts_parameter_list : starts parameter_list ≡ word_out ∷ open_square ∷ word_optional ∷ word_bool ∷ word_byte ∷ word_short ∷ word_int ∷ word_long ∷ word_float ∷ word_double ∷ word_string ∷ word_value ∷ word_object ∷ colons ∷ terminals.Word ∷ []
unfolding word name texts file_metadata metadata names scoped plain_type object_type named_type type_word signed_number number text truth named value given tag close constant_item entry entry_comma entries enum_item member members struct_item sequence_item dictionary_item tagged_member tagged_members body base compact class_body class_item exception_item paths bases thrown parameter parameter_list parameters answered operation operations interface_body interface_item definition
starts_parameter_list = refl

pub starts_constant_item : starts constant_item ≡ word_const ∷ []
unfolding word name texts file_metadata metadata names scoped plain_type object_type named_type type_word signed_number number text truth named value given tag close constant_item entry entry_comma entries enum_item member members struct_item sequence_item dictionary_item tagged_member tagged_members body base compact class_body class_item exception_item paths bases thrown parameter parameter_list parameters answered operation operations interface_body interface_item definition
starts_constant_item = refl

pub starts_enum_item : starts enum_item ≡ word_enum ∷ []
unfolding word name texts file_metadata metadata names scoped plain_type object_type named_type type_word signed_number number text truth named value given tag close constant_item entry entry_comma entries enum_item member members struct_item sequence_item dictionary_item tagged_member tagged_members body base compact class_body class_item exception_item paths bases thrown parameter parameter_list parameters answered operation operations interface_body interface_item definition
starts_enum_item = refl

pub starts_struct_item : starts struct_item ≡ word_struct ∷ []
unfolding word name texts file_metadata metadata names scoped plain_type object_type named_type type_word signed_number number text truth named value given tag close constant_item entry entry_comma entries enum_item member members struct_item sequence_item dictionary_item tagged_member tagged_members body base compact class_body class_item exception_item paths bases thrown parameter parameter_list parameters answered operation operations interface_body interface_item definition
starts_struct_item = refl

pub starts_sequence_item : starts sequence_item ≡ word_sequence ∷ []
unfolding word name texts file_metadata metadata names scoped plain_type object_type named_type type_word signed_number number text truth named value given tag close constant_item entry entry_comma entries enum_item member members struct_item sequence_item dictionary_item tagged_member tagged_members body base compact class_body class_item exception_item paths bases thrown parameter parameter_list parameters answered operation operations interface_body interface_item definition
starts_sequence_item = refl

pub starts_dictionary_item : starts dictionary_item ≡ word_dictionary ∷ []
unfolding word name texts file_metadata metadata names scoped plain_type object_type named_type type_word signed_number number text truth named value given tag close constant_item entry entry_comma entries enum_item member members struct_item sequence_item dictionary_item tagged_member tagged_members body base compact class_body class_item exception_item paths bases thrown parameter parameter_list parameters answered operation operations interface_body interface_item definition
starts_dictionary_item = refl

pub starts_class_item : starts class_item ≡ word_class ∷ []
unfolding word name texts file_metadata metadata names scoped plain_type object_type named_type type_word signed_number number text truth named value given tag close constant_item entry entry_comma entries enum_item member members struct_item sequence_item dictionary_item tagged_member tagged_members body base compact class_body class_item exception_item paths bases thrown parameter parameter_list parameters answered operation operations interface_body interface_item definition
starts_class_item = refl

pub starts_exception_item : starts exception_item ≡ word_exception ∷ []
unfolding word name texts file_metadata metadata names scoped plain_type object_type named_type type_word signed_number number text truth named value given tag close constant_item entry entry_comma entries enum_item member members struct_item sequence_item dictionary_item tagged_member tagged_members body base compact class_body class_item exception_item paths bases thrown parameter parameter_list parameters answered operation operations interface_body interface_item definition
starts_exception_item = refl

pub starts_entry_comma : starts entry_comma ≡ terminals.Word ∷ []
unfolding word name texts file_metadata metadata names scoped plain_type object_type named_type type_word signed_number number text truth named value given tag close constant_item entry entry_comma entries enum_item member members struct_item sequence_item dictionary_item tagged_member tagged_members body base compact class_body class_item exception_item paths bases thrown parameter parameter_list parameters answered operation operations interface_body interface_item definition
starts_entry_comma = refl

pub begun : {A : Type 0} (g : Grammar A) (set : List Terminal) (ls : Lexemes) → starts g ≡ set → begins set ls ≡ true → begins (starts g) ls ≡ true
begun g set ls e h = ap (λ (s : List Terminal). begins s ls) e ∙ h

pub not_begun : {A : Type 0} (g : Grammar A) (set : List Terminal) (ls : Lexemes) → starts g ≡ set → begins set ls ≡ false → begins (starts g) ls ≡ false
not_begun g set ls e h = ap (λ (s : List Terminal). begins s ls) e ∙ h

-- of two rules the one that begins here
pub or_first : {A : Type 0} (g k : Grammar A) (set : List Terminal) (ls : Lexemes) → starts g ≡ set → begins set ls ≡ true → read (or g k) ls ≡ read g ls
or_first g k set ls e h = let b = begun g set ls e h in rw b refl

pub or_second : {A : Type 0} (g k : Grammar A) (set : List Terminal) (ls : Lexemes) → starts g ≡ set → begins set ls ≡ false → read (or g k) ls ≡ read k ls
or_second g k set ls e h = let b = not_begun g set ls e h in rw b refl
