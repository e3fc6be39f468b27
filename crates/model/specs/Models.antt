-- MODEL: its columns 7 to 80.
use Rattle.fields.specs.Format.{Format, whole_f, none_f, ◌then◌, after, held, shut}
use Rattle.model.specs.declared.{Model.Model}

-- the model's number 11-14
unfoldable pub model_columns : Format Model
model_columns =
    held (after 4 (whole_f 4 1 9999 then after 66 none_f))
    (λ (number, none). record { number = number }) (λ m. (m.number, tt))

abbrev pub model_f : Format Model
model_f = shut 74 model_columns
