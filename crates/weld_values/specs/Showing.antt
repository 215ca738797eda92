-- The text of a value, which weld_write_value writes.
pub use Rattle.weld_write_value.specs.Showing.{shown_number, shown_scalar, led, shown_list, hex_of, shown_byte, shown_item, strung, shown_elements, shown_vec, shown_field, shown_struct, led_entries, shown_entries, shown_dict, show, show_fields, ShowValue}
