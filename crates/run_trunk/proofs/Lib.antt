mod Written
mod Carried
