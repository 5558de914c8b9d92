-- The value of a field in contracts.
use Rattle.request_checks.specs.declared.condition_fields.ConditionField.{ConditionField}
use Rattle.request_checks.specs.declared.condition_fields.ConditionField.TheVariants as fields
use Rattle.request_checks.specs.Fields.{FieldValue, Missing, Star, Tags}

abbrev pub field_value_view : ConditionField → FieldValue
field_value_view fields.Missing = Missing
field_value_view fields.Star = Star
field_value_view (fields.Tags tags) = Tags tags.items
