-- words for lists: an entry, each entry, each two entries, two lists in step
pub mod Lists
